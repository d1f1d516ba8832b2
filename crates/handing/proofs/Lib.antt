-- The five operations of each kind of head, each taken exactly, and what that rests on.
pub mod Carries
pub mod ClockEarlier
pub mod ClockExact
pub mod Earlier
pub mod Exact
pub mod Fitting
pub mod Flight
pub mod Handing
pub mod OneSender
pub mod Origins
pub mod Witness
