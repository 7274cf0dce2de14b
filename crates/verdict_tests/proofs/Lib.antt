-- Laws of the checks, one for each place in the code.
pub mod Searching
pub mod AtEdge
pub mod AtFace
pub mod Volumes
pub mod Testing
