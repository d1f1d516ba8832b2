-- What the program desk is asked, and what it says.
pub mod Asked
pub mod Claims
pub mod Figure
pub mod Rows
pub mod Said
pub mod Spoken
pub mod Wording
