-- What going on with a schedule leaves, in the words of the definitions.
pub mod Gone
