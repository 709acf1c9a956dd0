pub mod OutlineLaws
pub mod ContentLaws
pub mod TabledLaws
pub mod WholeLaws
