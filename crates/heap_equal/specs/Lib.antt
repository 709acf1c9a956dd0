pub mod Parts
pub mod Boards
