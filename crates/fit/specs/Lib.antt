-- What a sound table can hand to one station, a head with flash.
pub mod Fit
