-- What the functions of this program ask.
pub mod Sums
