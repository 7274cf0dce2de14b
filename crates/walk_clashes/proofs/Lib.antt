-- Laws of candidates' tables.
pub mod Rows
pub mod Normals
pub mod Parts
pub mod Sorting
pub mod Folding
pub mod Crossed
pub mod Gathering
pub mod Planes
pub mod Sharing
pub mod Marking
pub mod Ways
pub mod Clashing
