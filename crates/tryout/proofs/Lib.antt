-- Laws of what the program is asked, and of what it says.
pub mod Asking
pub mod Computed
pub mod Knowing
pub mod Room
pub mod Telling
