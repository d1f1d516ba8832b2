-- The bytes of a command, what a decision says of it, and whether a station was started.
pub mod Bytes
pub mod Decisions
pub mod Started
