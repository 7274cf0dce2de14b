-- The laws of lists and searches.
pub mod Truth
pub mod Places
pub mod Search
pub mod Below
pub mod Sides
pub mod Lowest
pub mod Passing
pub mod Kept
pub mod Backwards
pub mod After
pub mod Agreeing
pub mod OwnNumbers
