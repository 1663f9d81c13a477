-- What the functions return that ask the record.
pub mod Code
