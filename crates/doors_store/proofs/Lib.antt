pub mod Determined
pub mod StoreLaws
