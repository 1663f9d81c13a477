-- Each call is proved by the contract of the one below; `Parts` has the laws of the table in its parts, `Claims` what is claimed of it.
pub mod Parts
mod Claims
