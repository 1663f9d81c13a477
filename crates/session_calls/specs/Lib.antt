-- The calls of a session file (docs/session-format.md, section Calls): the words of a row, and a table of rows.
pub mod Grammar
pub mod Code
pub mod Table
