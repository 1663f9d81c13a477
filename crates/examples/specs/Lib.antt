-- Document 01, section Checked examples: `Given` has what the examples are about, `Table` the rows and the one statement.
pub mod Given
pub mod Table
