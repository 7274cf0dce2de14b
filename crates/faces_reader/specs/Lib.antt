-- What contracts of this crate and its callers cite beside the paper.
-- one face of a packed list, and what comes before and behind the faces
pub mod Face
-- the room of rows
pub mod Filed
-- what the functions that read ask of their arguments
pub mod Asked
