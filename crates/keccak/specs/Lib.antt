-- The permutation of FIPS 202, in reading order.
pub mod Constants
pub mod Keccak
