-- How large six volumes of a solid can be.
pub mod Terms
pub mod Counted
pub mod Near
pub mod Reports
