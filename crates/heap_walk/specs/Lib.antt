pub mod Walks
pub mod Marks
pub mod Tasks
