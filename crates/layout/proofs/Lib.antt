-- Work on a layout.
pub mod Between
pub mod Full
pub mod Initial
pub mod Stores
