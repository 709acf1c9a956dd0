pub mod Needs
pub mod Pass
pub mod Lacks
