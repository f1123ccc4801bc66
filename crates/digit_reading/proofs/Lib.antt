pub mod DigitsLaws
