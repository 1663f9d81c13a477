-- The laws of the power steps, in the order in which they stand on each other.
pub mod Whole
pub mod Ranges
pub mod Rules
pub mod Steps
pub mod Claims
pub mod Refusals
pub mod StepRule
