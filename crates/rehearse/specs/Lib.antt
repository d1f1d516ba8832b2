-- What the program reads and prints.
pub mod Moves
