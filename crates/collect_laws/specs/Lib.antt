pub mod Packs
pub mod Kept
pub mod Collects
