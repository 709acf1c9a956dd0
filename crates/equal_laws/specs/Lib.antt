pub mod Levels
pub mod Runs
