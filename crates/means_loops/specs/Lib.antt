-- What loops and candidates are, in plain mathematics.
pub mod Shape
pub mod Loop
pub mod Plane
pub mod Path
