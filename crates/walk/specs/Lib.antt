-- What contracts of this crate cite beside the paper.
pub mod Tally
pub mod Leaf
pub mod Branch
pub mod Walk
