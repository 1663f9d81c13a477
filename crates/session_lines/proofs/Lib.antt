-- The law behind the proof of a line that grows.
mod Growing
