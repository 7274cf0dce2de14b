-- What contracts of several crates cite beside the paper.
pub mod InRange
pub mod Editions
pub mod Planes
