-- What the copying loops keep.
pub mod Copying
