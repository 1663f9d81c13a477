-- Document 01, section The choice. Start with `Order` and `Choose`; `Claims` says what is claimed beyond the contract.
pub mod Order
pub mod Choose
pub mod Told
pub mod Claims
pub mod Code
