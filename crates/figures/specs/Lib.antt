-- The figures of a system, what is claimed of them, and rows that are computed.
pub mod Claims
pub mod Figures
pub mod Pieces
pub mod Rows
