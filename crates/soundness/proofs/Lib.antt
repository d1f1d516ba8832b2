-- Tests of each place as tests of a list's elements.
pub mod Elements
