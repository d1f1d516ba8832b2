-- Schedules as text.
pub mod Assembled
pub mod AssembledRows
pub mod Claims
pub mod Cursor
pub mod Decimals
pub mod Encoded
pub mod Entries
pub mod Meanings
pub mod Passes
pub mod Pieces
pub mod Places
pub mod Shown
pub mod ShownRows
pub mod Split
pub mod Tabled
