-- What contracts of this crate cite beside the paper.
pub mod Rooms
pub mod Paths
pub mod Lines
pub mod Starts
