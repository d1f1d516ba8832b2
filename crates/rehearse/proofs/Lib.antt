-- What the program prints, and how it ended.
pub mod Printed
pub mod Ran
