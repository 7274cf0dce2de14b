-- Laws behind the contracts of this crate.
pub mod Rooms
