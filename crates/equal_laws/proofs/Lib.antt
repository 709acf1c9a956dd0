pub mod Eqv
pub mod Steps
pub mod Levels
pub mod Runs
