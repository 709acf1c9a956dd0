pub mod Determined
pub mod DoorLaws
pub mod PutLaws
