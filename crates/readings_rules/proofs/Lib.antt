-- The laws of the readings, in the order in which they stand on each other.
pub mod Ranges
pub mod Near
pub mod Signs
pub mod Rule
pub mod Conversion
pub mod Fields
pub mod Range
pub mod Quotient
pub mod SingleFloat
pub mod NearestFloat
pub mod Back
pub mod Bursts
pub mod Claims
