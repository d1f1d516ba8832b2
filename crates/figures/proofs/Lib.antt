-- The theorems of the figures, and the laws of their loops.
pub mod Bound
pub mod Computed
pub mod Leading
pub mod Loops
pub mod Products
pub mod Schedules
