pub mod Makings
pub mod Tasks
