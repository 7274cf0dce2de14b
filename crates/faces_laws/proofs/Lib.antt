-- What follows from the definitions of face lists.
-- a face list and a face that pass 20
pub mod Shape
-- faces by the bit at which each starts; how many bits there are
pub mod FaceList
pub mod Packed
-- a solid's faces, from rows and its two words
pub mod Reported
-- what is said of both
pub mod Said
