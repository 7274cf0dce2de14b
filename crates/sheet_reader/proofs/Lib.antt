-- The laws that this crate's proofs and its callers share.
pub mod Drawn
pub mod Range
