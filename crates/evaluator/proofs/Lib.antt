pub mod Asking
pub mod CellTextLaws
pub mod HexAscii
