-- What the stages ask and promise.
pub mod Asked
pub mod Costs
