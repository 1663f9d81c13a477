-- The laws behind the proofs of words, in the order in which they stand on each other.
pub mod Lists
pub mod Runs
pub mod Cuts
