-- What contracts of this crate and its callers cite beside the paper.
pub mod Asked
pub mod Ways
