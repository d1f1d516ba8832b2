-- Which bytes are read and written, what it is enough to read, and where a text goes.
pub mod Calls
pub mod Moved
pub mod Streams
