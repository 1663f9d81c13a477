-- The laws that the proofs of these calls share.
pub mod ListScan
pub mod NewBeam
