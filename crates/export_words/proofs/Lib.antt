-- How answers are told.
pub mod Telling
pub mod Handing
pub mod Showing
