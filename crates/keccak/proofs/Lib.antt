-- Laws on plain values, in reading order.
pub mod Each
pub mod Rounds
