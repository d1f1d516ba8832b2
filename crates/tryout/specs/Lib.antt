-- What the program tryout is asked, and what it says.
pub mod Asked
pub mod Moves
pub mod Pieces
pub mod Rows
pub mod Told
