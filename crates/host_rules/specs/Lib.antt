-- The answers of the library as a host finds them: `Answers`. `Claims` says what is claimed of them beyond the contracts.
pub mod Answers
pub mod Claims
