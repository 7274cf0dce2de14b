-- Laws that the proofs of this crate's functions apply.
pub mod Keeping
pub mod Roomy
