pub mod TallyLaws
pub mod FreeLaws
