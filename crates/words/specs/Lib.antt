-- Commands and refusals in words.
pub mod Doings
pub mod Reasons
