pub mod TestLaws
pub mod LineLaws
pub mod AnswerLaws
