pub mod ValueLaws
pub mod ReadLaws
pub mod AcceptedLaws
