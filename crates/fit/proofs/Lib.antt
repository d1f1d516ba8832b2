-- What fits a station, as facts in arithmetic, and that the rules keep it.
pub mod Between
pub mod Down
pub mod Handed
pub mod Keeps
pub mod Safe
pub mod Tests
