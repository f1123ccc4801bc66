-- Laws on plain values, in reading order; callers cite those of Laws.
pub mod Pad
pub mod Blocks
pub mod Laws
