pub mod Basics
pub mod Sorting
