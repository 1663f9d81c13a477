-- `Walk`: the walk of the code. `Lends`: from it to the contract.
pub mod Walk
pub mod Lends
