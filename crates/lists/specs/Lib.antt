-- Lists: entries, tests, counts, folds, joins.
pub mod Count
pub mod Entries
pub mod Every
pub mod Filter
pub mod First
pub mod Fold
pub mod Join
pub mod Largest
pub mod Segment
pub mod Test
