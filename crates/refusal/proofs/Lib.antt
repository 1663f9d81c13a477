-- The laws of the refusals.
pub mod OneToOne
pub mod Numbers
pub mod Provided
