-- Laws of the bytes that are read and written, and of what it is enough to read.
pub mod Calls
pub mod Going
pub mod Known
pub mod Moves
pub mod Taken
