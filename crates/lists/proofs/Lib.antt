-- Laws on lists and numbers that several crates cite.
pub mod Parts
pub mod Numbers
pub mod Below
pub mod Xor
pub mod Bits
pub mod Filling
pub mod Lent
