pub mod Answers
pub mod PutAgain
