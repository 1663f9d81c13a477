-- The numbers of a line of a session file, by the places of its words.
pub mod Values
