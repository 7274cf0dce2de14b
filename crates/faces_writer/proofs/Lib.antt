-- The laws that this crate's proofs share.
-- a loop run the other way, and a candidate's row as a face
pub mod Fits
pub mod RowAt
-- what faces weigh, and how they are written, candidate by candidate
pub mod Weight
pub mod SendFaces
-- the list's bytes and the writer's answer
pub mod Sent
