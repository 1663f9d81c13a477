-- Document 01, section Power steps. Start with `PowerSteps` and `Calls`; `Claims` says what is claimed beyond the contracts, and with
-- `Refusals` the rules again in the paper's words.
pub mod Constants
pub mod PowerSteps
pub mod Calls
pub mod Told
pub mod Refusals
pub mod Claims
pub mod Code
