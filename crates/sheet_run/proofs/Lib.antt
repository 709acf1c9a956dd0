pub mod PutLaws
pub mod CallLaws
