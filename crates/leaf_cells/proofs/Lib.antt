pub mod KindLaws
pub mod HeapLaws
pub mod CallLaws
pub mod Determined
pub mod Variants
