-- Laws of the numbers and polygons that the code holds. `Sizes`, `Zeros`, `Rows`, `Planes` and `Drawn` are cited by callers too.
pub mod Sizes
pub mod Zeros
pub mod Rows
pub mod Areas
pub mod Planes
pub mod Drawn
pub mod Pairs
