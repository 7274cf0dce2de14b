-- What contracts of this crate cite beside the paper.
pub mod State
pub mod Sweeps
pub mod Choice
