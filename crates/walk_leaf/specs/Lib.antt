-- What contracts of this crate cite beside the paper.
pub mod Faces
pub mod Tests
