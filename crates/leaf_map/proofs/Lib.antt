pub mod SameState
