-- Laws behind the contracts of this crate, and how long a text is.
pub mod Parts
pub mod Short
pub mod Desk
pub mod Written
