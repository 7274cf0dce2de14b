-- Laws behind words as bytes.
pub mod Back
pub mod Each
pub mod Long
pub mod Signed
