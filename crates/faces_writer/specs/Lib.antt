-- What contracts of this crate cite beside the paper.
-- a solid's faces, candidate by candidate, and what they weigh
pub mod Send
-- what the functions that write ask of their arguments
pub mod Asked
