pub mod Determined
pub mod EqualLaws
pub mod EqvLaws
