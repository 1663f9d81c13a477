-- Lemmas that the proofs of the sweep's functions share.
pub mod LevelSlices
pub mod SumOfOnes
pub mod BitSet
pub mod WordChunks
pub mod ReadCalls
pub mod WordRuns
