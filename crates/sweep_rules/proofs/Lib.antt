-- The laws of the sweep, in the order in which they stand on each other.
pub mod ReadRecord
pub mod Tests
pub mod Words
pub mod Maps
pub mod MapLength
pub mod Levels
pub mod Formed
pub mod Filed
pub mod ReadCalls
pub mod Lowest
pub mod Refusals
pub mod OneFiling
pub mod Sequences
pub mod Filings
pub mod Claims
