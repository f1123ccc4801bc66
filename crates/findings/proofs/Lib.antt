-- Demand 3, in reading order.
pub mod FindingLaws
pub mod ChainFindings
pub mod TreeFindings
pub mod ForestFindings
pub mod LayerFindings
pub mod OneOfThree
