-- The rules at values that were worked out elsewhere too.
pub mod Sample
