-- Laws of the walk, one for each way out of the code.
pub mod Tallies
pub mod Keeping
pub mod Branching
pub mod Turns
pub mod Walking
pub mod Starting
