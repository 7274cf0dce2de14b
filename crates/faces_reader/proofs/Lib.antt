-- The laws that this crate's proofs share.
-- how large numbers get, and tests in a row
pub mod Brief
pub mod Tests
-- the face at a bit, and the loop that reads all
pub mod FaceAt
pub mod ReadFaces
-- rows hold the faces
pub mod Filed
