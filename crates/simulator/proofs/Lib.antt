-- What a command does that is taken, a turn of going on with a schedule, and what the operations give.
pub mod Operations
pub mod Stored
pub mod Turns
