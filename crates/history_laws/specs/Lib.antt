pub mod Taken
pub mod Histories
pub mod Lines
pub mod HeldThrough
