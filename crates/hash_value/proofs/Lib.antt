-- The definition of SHAKE256 at one value.
pub mod Value
