-- The laws of the tests of a record and of what stands where in it, for all calls of the watch.
pub mod Places
pub mod Scan
pub mod Tracks
pub mod Watched
