-- What the program frames prints.
pub mod Claims
pub mod Explained
pub mod Line
pub mod Moves
pub mod Rows
