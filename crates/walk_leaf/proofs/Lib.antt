-- Laws of the tests, one for each place in the code.
pub mod Steps
pub mod Rounds
pub mod Directions
pub mod Sums
pub mod Volumes
pub mod Judging
