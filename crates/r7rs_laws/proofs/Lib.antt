pub mod Trees
pub mod Listed
pub mod Standard
