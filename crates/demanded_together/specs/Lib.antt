-- The customer's demands of calls that follow each other.
pub mod Together
pub mod Twice
