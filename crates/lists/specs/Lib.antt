-- Words on lists that several crates' definitions use.
pub mod Below
