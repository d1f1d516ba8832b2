-- Demand 3 and Paper 7: their words and the claims, that there is a leader, instances, and what they say of the code.
pub mod Instance
pub mod Leader
pub mod OfCode
pub mod Restarting
pub mod Settling
pub mod Steady
