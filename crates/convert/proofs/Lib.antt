-- Laws behind the contracts of this crate.
pub mod Walking
pub mod Converting
pub mod Sheets
