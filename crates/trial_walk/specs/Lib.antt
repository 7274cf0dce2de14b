-- What the functions ask.
pub mod Asked
