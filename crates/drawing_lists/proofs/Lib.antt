-- The laws that this crate's proofs share, and that its callers cite.
pub mod Range
