-- What contracts of this crate cite beside the paper.
pub mod Faces
pub mod Sorted
pub mod Lent
pub mod Folds
pub mod Clashes
pub mod Marking
