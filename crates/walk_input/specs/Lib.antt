-- What contracts of this crate and its callers cite beside the paper.
pub mod Rows
pub mod Words
pub mod Tables
pub mod Given
