-- What a sound system hands to a station operation.
pub mod ClockHanded
pub mod Flight
pub mod Handed
