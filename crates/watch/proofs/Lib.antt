-- The laws that the proofs of the calls share.
pub mod Sums
pub mod Pushed
pub mod Found
pub mod Stored
pub mod Search
