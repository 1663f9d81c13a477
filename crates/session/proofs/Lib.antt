-- The laws behind the proofs of a session, in the order in which they stand on each other.
mod Cutting
mod Kept
mod Steps
mod Ended
mod Filling
