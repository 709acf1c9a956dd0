pub mod Parsed
pub mod Steps
