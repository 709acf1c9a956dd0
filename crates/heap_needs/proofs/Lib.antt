pub mod Standing
pub mod Along
pub mod Taking
pub mod NameLaws
pub mod StackLaws
pub mod CountLaws
pub mod PassLaws
pub mod LackLaws
