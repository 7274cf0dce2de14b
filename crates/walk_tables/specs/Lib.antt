-- What contracts on the walk cite beside the paper.
pub mod Words
