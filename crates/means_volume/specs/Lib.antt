-- What is said of the size of six volumes.
pub mod Bound
