pub mod LayerLaws
pub mod UpLaws
