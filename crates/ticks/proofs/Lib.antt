-- A tick, as the code goes through it.
pub mod After
pub mod Chances
pub mod Counted
pub mod Hearing
pub mod InPlace
pub mod Indices
pub mod ByKind
pub mod Quiet
pub mod Reading
pub mod Ready
pub mod Run
pub mod Safe
pub mod Sent
pub mod Silent
pub mod Taken
pub mod Turns
pub mod Whole
