-- The definitions' loops and candidates are those of plain mathematics.
pub mod Kept
pub mod Rings
pub mod Lowest
pub mod Forms
pub mod Searching
pub mod Ordered
pub mod Listing
pub mod Planes
pub mod OwnPlane
pub mod Places
pub mod Paths
