pub mod PassLaws
pub mod Answers
