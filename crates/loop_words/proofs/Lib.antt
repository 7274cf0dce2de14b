-- Laws that the proofs of this crate's functions apply.
pub mod Pairs
pub mod Gathered
pub mod Masks
