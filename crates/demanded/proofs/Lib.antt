-- From a function's contract to the customer's demand.
pub mod Demanding
