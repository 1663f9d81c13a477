-- The laws that the proofs of a step share, and those of its four ends.
pub mod Numbers
pub mod Ends
