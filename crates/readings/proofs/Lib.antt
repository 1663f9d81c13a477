-- What the proofs of the ranges share.
pub mod Ends
