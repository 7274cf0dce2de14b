-- The laws that this crate's proofs share.
pub mod Bits
pub mod Answers
