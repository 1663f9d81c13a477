-- Session files (docs/session-format.md): the text of an answer.
pub mod Text
