-- What a tick is given, and its parts.
pub mod Chances
pub mod Delivering
pub mod Sending
