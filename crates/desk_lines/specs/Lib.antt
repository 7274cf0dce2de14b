-- What contracts on parts of a line cite beside the paper.
pub mod Put
