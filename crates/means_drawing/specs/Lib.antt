-- The words of the theorems on the drawing rules, in plain mathematics.
pub mod Segments
pub mod Drawings
pub mod Rules
