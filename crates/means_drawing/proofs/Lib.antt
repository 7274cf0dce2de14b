-- The table's 11 to 14, proved of their definitions. Each file states a group of theorems; the longer proofs are in the folder of its
-- name.
-- common points of segments
pub mod Segments
-- what the drawing rules find
pub mod Drawings
-- what the proofs share
pub mod Searches
