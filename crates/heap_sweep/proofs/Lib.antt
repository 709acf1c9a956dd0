pub mod SlotLaws
pub mod HeapSweep
pub mod Collected
