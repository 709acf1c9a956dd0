pub mod Pushes
pub mod Leads
pub mod Roots
pub mod States
pub mod Tracing
pub mod SoundMarks
