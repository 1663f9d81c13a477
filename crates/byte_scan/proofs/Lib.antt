-- The laws behind the proof of the search.
pub mod Places
