-- A session file (docs/session-format.md): what it writes, whole (`File`) and in blocks (`Reading`).
pub mod File
pub mod Reading
