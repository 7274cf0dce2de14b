-- The customer's demands of one call for C or Rust, and of the desk's text.
pub mod Words
pub mod Text
