-- Laws of what is said.
pub mod Again
pub mod Asking
pub mod Computed
pub mod Enough
pub mod Figuring
pub mod Knowing
pub mod Preparing
pub mod Rehearsing
pub mod Room
pub mod Rooms
pub mod Saying
