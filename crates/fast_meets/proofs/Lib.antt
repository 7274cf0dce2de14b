-- Rule 13 by pairs of edges, each asked once.
pub mod Boxes
pub mod Both
pub mod Searches
pub mod Vertices
pub mod Pairs
pub mod First
pub mod Later
pub mod Steps
