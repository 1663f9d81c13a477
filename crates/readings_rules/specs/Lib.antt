-- Document 01, section Readings. Start with `Ranges`, `Rounding` and `Hundredths`; `Claims` says the rules again in the paper's words.
pub mod Ranges
pub mod Channels
pub mod Rounding
pub mod Hundredths
pub mod Float
pub mod Burst
pub mod Back
pub mod Told
pub mod Claims
pub mod Code
