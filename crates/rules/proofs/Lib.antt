-- Laws of the rules, in reading order.
pub mod DigitLaws
pub mod ReadLaws
pub mod ChecksumLaws
pub mod ChainLaws
pub mod TreeLaws
pub mod LayerLaws
pub mod ForestLaws
pub mod DigestLaws
pub mod KeyLaws
pub mod SealLaws
pub mod CheckLaws
pub mod Accepts
pub mod Starred
pub mod SetLaws
pub mod AddressLaws
