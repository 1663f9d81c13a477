-- The laws behind the proofs of numbers.
pub mod Powers
mod Choices
mod Runs
mod Radices
mod Hex
mod Signs
mod Decimals
mod Nums
pub mod Ranges
