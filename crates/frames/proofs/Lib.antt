-- What the program frames prints: the laws.
pub mod Chosen
pub mod Computed
pub mod Going
pub mod Kept
pub mod Mapped
pub mod Moving
pub mod Own
pub mod Room
pub mod Spelling
pub mod Whole
