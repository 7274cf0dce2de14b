-- The customer's demands of one call.
pub mod Demanded
