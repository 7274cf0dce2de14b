-- Laws of what is known of a drawing's loops.
pub mod Loops
pub mod Passed
