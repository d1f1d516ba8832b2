-- The pieces of a listing make the listing; the scan of the search finds the verdict, and ends where it should.
pub mod Answers
pub mod Pieces
pub mod Room
pub mod Same
pub mod Scan
