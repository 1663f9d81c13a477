-- The refusal numbers, and what a call answers in document 01's terms.
pub mod Number
pub mod Told
pub mod Claims
