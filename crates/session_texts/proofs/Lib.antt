-- The laws behind the proofs of texts.
mod Writing
mod Signs
