pub mod CollectLaws
pub mod Determined
