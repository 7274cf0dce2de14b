-- What contracts of this crate cite beside the paper.
pub mod Kept
pub mod Asked
