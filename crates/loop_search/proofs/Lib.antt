-- Laws of the search's rooms and of its turns.
pub mod Filling
pub mod Kept
pub mod Way
pub mod Takes
pub mod Deeper
pub mod Level
pub mod Drawn
pub mod Straight
pub mod Steps
pub mod Starting
pub mod Whole
