-- A head with a running clock: its rules and what is claimed of them, what a sound system can hand to it, its operations, and rows.
pub mod Claims
pub mod Fit
pub mod Operations
pub mod Rows
pub mod Rules
