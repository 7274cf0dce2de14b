-- The laws that this crate's proofs share. `Edges`, `Words` and `Range` are cited by callers too.
pub mod Edges
pub mod Words
pub mod Reach
pub mod Range
