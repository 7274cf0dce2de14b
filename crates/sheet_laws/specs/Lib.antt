-- What contracts of several crates on drawings cite beside the paper.
pub mod Near
