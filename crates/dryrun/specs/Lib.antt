-- A command tried out, what is claimed of it, and rows that are computed.
pub mod Claims
pub mod DryRun
pub mod Rows
