pub mod Keeping
pub mod Trees
pub mod Atoms
