-- The LEADER frame and the clock frame: what the reading and writing proofs rest on.
pub mod Accepted
pub mod Body
pub mod Clock
pub mod ClockRestores
pub mod Elements
pub mod Example
pub mod Front
pub mod Lengths
pub mod Ranges
pub mod Restores
pub mod WellFormed
