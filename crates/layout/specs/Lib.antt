-- A system laid out for work in place.
pub mod Layout
