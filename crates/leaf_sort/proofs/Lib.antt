pub mod ByStd
pub mod Arranging
