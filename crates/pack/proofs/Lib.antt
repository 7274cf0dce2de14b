-- The laws of packed fields, over the width, and of arrays that are filled.
pub mod Laws
pub mod Overwrite
pub mod Trip
pub mod Bytes
pub mod Fill
