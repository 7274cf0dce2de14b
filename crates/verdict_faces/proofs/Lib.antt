-- The laws of this crate.
pub mod Rows
pub mod Turns
pub mod Same
pub mod Marks
pub mod Passing
pub mod Held
pub mod Answers
-- for the caller
pub mod Listed
