-- Laws behind the contracts of this crate.
pub mod Listing
pub mod Tabling
pub mod Given
