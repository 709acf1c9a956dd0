pub mod Texts
pub mod Limits
pub mod Written
pub mod Accepted
