-- Demand 2: sheets, and face lists, read back and are written back the same. Each file states a group of theorems; the longer proofs are
-- in the folder of its name.
pub mod Sheets
pub mod FaceLists
-- what the proofs share
pub mod Filled
pub mod Writers
