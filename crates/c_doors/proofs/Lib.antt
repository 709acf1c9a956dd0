mod ToldLaws
pub mod Determined
