-- The laws of lists, counts, folds and tests.
pub mod Bools
pub mod Count
pub mod Entries
pub mod Every
pub mod Filter
pub mod First
pub mod Fold
pub mod Largest
pub mod Places
pub mod Segment
pub mod Sets
pub mod Test
