-- Rule 13 by pairs of edges, each asked once.
pub mod Boxes
pub mod Pairs
pub mod Theorems
