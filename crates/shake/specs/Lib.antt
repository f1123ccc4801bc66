-- The function, and then the struct that the code makes it with.
pub mod Shake
pub mod State
