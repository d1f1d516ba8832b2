-- How long a listing can get, and what the search asks of a station.
pub mod Room
pub mod Scan
