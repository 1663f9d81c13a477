-- Document 01, section The band sweep. Start with `Map` and `Record`; `Claims` says what is claimed beyond the contracts.
pub mod Map
pub mod Record
pub mod Filing
pub mod Next
pub mod Counts
pub mod Told
pub mod Claims
pub mod Code
