pub mod DraftLaws
pub mod StepLaws
pub mod Cycle
pub mod KindLaws
