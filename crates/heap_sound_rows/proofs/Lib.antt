pub mod NumberLaws
pub mod RowLaws
pub mod HeapFacts
pub mod WrittenLaws
pub mod UpLaws
