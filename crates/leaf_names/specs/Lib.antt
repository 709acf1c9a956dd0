pub mod Ordering
pub mod Keys
