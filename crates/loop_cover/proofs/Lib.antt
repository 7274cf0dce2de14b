-- Laws that the proofs of this crate's functions apply.
pub mod Middles
pub mod Asking
pub mod Covering
