pub mod PaintLaws
pub mod BlockLaws
