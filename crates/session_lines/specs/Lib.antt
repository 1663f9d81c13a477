-- Session files (docs/session-format.md): their lines.
pub mod Lines
