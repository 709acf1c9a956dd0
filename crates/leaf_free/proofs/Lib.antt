pub mod Steps
pub mod Written
pub mod FreeWords
pub mod FreeMap
pub mod Allocating
pub mod FreshWords
pub mod TakenSlot
pub mod SoundGrowing
