-- What contracts of this crate cite beside the paper.
pub mod Asked
pub mod Room
