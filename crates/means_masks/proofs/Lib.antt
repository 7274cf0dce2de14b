-- The tests of a selection, over the tables of a drawing, mean what (i) to (v) say.
pub mod Edges
pub mod Tables
pub mod Judged
