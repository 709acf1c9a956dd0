pub mod WordLaws
pub mod EqvLaws
