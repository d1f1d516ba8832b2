-- What is decided of a command, in the words of the definitions.
pub mod Decided
