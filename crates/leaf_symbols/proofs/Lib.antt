pub mod Turns
pub mod TableLaws
