-- The numbers of a session file (docs/session-format.md, section Words). Start with `Numbers`; `Code`
-- is what the private functions return, and how a type tells a whole number.
pub mod Numbers
pub mod Code
