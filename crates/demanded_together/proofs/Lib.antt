-- From the contracts of several calls to the customer's demand.
pub mod Agreeing
pub mod Back
pub mod Twice
