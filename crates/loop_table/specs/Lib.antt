-- What contracts on loops cite beside the paper.
pub mod Passed
pub mod Tables
pub mod Loops
