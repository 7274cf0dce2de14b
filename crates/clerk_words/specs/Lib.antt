-- What contracts on words as bytes cite.
pub mod Words
