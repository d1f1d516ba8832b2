-- Laws of text that is laid over the front of a buffer, piece by piece, and of hex text that is read.
pub mod Digits
pub mod HexText
pub mod Parts
pub mod Room
pub mod Same
