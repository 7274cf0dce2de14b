-- Laws of the walk's state and of the sweeps, one for each place in the code.
pub mod Lowest
pub mod Deciding
pub mod Settling
pub mod Gathering
pub mod Marking
pub mod Sweeping
pub mod Choosing
