-- What moves a drawing, and what stays.
pub mod Moves
pub mod Alike
pub mod Turned
pub mod TurnedRound
pub mod Lists
pub mod Rings
pub mod Renumbered
pub mod Kept
pub mod Reports
