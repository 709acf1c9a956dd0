pub mod SizeLaws
pub mod ReadLaws
pub mod StepLaws
pub mod SheetLaws
pub mod DatumLaws
