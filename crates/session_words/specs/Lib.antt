-- The words of a session file (docs/session-format.md, section Lines): texts as bytes, and a line cut at its spaces.
pub mod Bytes
pub mod Words
pub mod Held
