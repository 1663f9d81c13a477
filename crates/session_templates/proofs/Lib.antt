-- The laws behind the proofs of lines by their templates.
pub mod Room
