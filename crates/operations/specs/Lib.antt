-- The open operations of a head with flash.
pub mod Operations
