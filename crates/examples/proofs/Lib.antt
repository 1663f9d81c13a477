-- What the table's proof stands on.
pub mod Choices
