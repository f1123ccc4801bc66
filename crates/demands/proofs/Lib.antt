pub mod RowLaws
pub mod GivenLaws
pub mod Demands
