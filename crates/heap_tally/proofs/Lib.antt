pub mod TallyLaws
pub mod StepLaws
