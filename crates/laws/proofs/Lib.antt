-- Laws that belong to no one part of the library, one file for each thing that they are about.
pub mod Tests
pub mod Counting
pub mod Order
pub mod Parts
pub mod Shifts
pub mod Rounding
pub mod Signs
pub mod Lists
pub mod Sequences
