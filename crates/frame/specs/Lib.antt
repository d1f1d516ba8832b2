-- The LEADER frame and the clock frame.
pub mod Claims
pub mod Frame
pub mod Reading
pub mod Stamp
pub mod StampClaims
pub mod Writing
