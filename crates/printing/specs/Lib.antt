-- The listings of a schedule.
pub mod Listings
