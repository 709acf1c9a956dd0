pub mod WalkLaws
pub mod MarkLaws
pub mod KindLaws
pub mod Cycle
