-- The laws of the choice, in the order in which they stand on each other.
pub mod Whole
pub mod Lists
pub mod Listed
pub mod Ranked
pub mod Endings
pub mod Refusals
pub mod Answers
pub mod SameBytes
pub mod Claims
pub mod KeyOrder
pub mod Depths
pub mod Gathered
pub mod Turns
