-- Words that rules and laws of several crates are written in: tests over numbers, rounding down, and a sequence of calls.
pub mod Tests
pub mod Rounding
pub mod Sequences
