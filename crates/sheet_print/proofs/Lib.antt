pub mod PrintLaws
pub mod ListLaws
pub mod WordLaws
