-- Session files (docs/session-format.md): a line by its template.
pub mod Filled
