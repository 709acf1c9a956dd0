pub mod HexLaws
pub mod PrintLaws
