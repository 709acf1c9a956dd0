pub mod Sizes
pub mod CellSteps
pub mod SymbolSteps
pub mod PlaceSteps
