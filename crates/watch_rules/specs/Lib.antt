-- Document 01, sections The watch and The plain watch, and demand 3. Start with `Plain`, which is the measure of everything, and
-- go on with `Refusals`, `PlainSteps` and `Claims`.
pub mod Lists
pub mod Limits
pub mod Told
pub mod Rules
pub mod Plain
pub mod Rows
pub mod Record
pub mod Refusals
pub mod PlainSteps
pub mod Claims
