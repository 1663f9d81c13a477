-- The calls of a session on the watch (docs/session-format.md, section Calls).
pub mod Rows
