-- Laws of loops as the code holds them.
pub mod Rows
pub mod Words
pub mod Loops
