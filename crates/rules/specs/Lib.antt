-- FIPS 205, in reading order.
pub mod Digits
pub mod Places
pub mod Calls
pub mod Chains
pub mod Trees
pub mod Layers
pub mod Forest
pub mod Sets
pub mod Digest
pub mod Keys
pub mod Seal
pub mod Check
pub mod Starred
