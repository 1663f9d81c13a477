-- The state of a session (docs/session-format.md, section State).
pub mod State
