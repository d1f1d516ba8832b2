-- What fits a head with a running clock, as facts in arithmetic, that its rules keep it, and what each operation gives.
pub mod Between
pub mod Computed
pub mod Down
pub mod Elimination
pub mod Handed
pub mod Keeps
pub mod Safe
pub mod Sending
pub mod Tests
pub mod Unchanged
