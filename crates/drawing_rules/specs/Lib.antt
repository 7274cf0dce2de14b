-- What contracts of this crate cite beside the paper.
pub mod Meets
pub mod Boxes
pub mod Asked
