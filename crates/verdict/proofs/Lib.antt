-- The laws of the check.
-- a list that is read: refused by 20, or its faces in rows
pub mod Read
-- a list whose faces are named: 21 to 27
pub mod Naming
-- the tables of the drawing, as the list's check asks for them
pub mod Tabled
-- a drawing with its list: the first check that applies
pub mod Deciding
