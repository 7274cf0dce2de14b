-- What contracts of this crate cite beside the paper.
pub mod Room
pub mod Concluded
