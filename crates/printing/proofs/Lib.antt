-- What was printed of the listings.
pub mod Going
