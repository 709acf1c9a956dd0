pub mod Roots
pub mod Finding
pub mod Ways
pub mod Classes
pub mod Joining
