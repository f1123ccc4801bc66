-- The sponge of FIPS 202, and then the stream of bytes that the code follows.
pub mod Sponge
pub mod Stream
