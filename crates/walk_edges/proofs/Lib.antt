-- Laws of the words of edges.
pub mod Stored
pub mod Ups
pub mod Turns
pub mod Columns
pub mod Upward
pub mod Firsts
