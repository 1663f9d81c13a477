-- The lines that the answers of a session file are written as (docs/session-format.md, column "writes").
pub mod Lines
