-- The laws that this crate's proofs share.
pub mod Vertices
pub mod Corners
pub mod Meeting
pub mod Sharing
