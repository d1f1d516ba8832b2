-- Text as bytes: quoted, numbers, hex, and what a writer leaves.
pub mod Choice
pub mod Hex
pub mod Numbers
pub mod Quoted
pub mod Wrote
