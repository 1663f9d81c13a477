-- The laws behind the proofs of a line's row, in the order in which they stand on each other.
pub mod Apart
pub mod Tables
mod Going
mod Channels
mod Rows
mod Splits
