pub mod HexDigits
pub mod Plans
pub mod NumbersAt
pub mod HexAscii
