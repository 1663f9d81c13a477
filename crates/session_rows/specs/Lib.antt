-- What each call of a session does to the state and writes, and the table of calls (docs/session-format.md, section Calls).
pub mod Calls
pub mod Table
pub mod Claims
