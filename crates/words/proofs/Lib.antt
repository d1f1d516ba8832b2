-- Laws of the words.
pub mod Doings
pub mod Room
