pub mod PlainLaws
pub mod FirstLaws
