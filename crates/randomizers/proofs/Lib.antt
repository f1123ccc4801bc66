pub mod RandomizerLaws
