-- The calls of a session on the sweep (docs/session-format.md, section Calls).
pub mod Rows
