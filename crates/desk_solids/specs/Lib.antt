-- What contracts on the lines of solids cite beside the paper.
pub mod Solids
