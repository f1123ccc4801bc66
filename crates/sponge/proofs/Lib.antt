-- Laws on plain values, in reading order.
pub mod Stream
pub mod Lanes
