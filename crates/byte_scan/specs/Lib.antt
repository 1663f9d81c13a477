-- Where a byte stands in a part of a text.
pub mod Bytes
