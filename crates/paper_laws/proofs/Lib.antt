-- What follows from document 01's definitions, for any crate to cite.
pub mod Values
pub mod Checks
pub mod Behind
pub mod Limits
pub mod Editions
pub mod Coordinate
pub mod Rows
pub mod Record
pub mod Vectors
pub mod Six
pub mod Points
pub mod Factors
pub mod Turned
pub mod Wires
pub mod Tilted
pub mod Answers
pub mod Tests
