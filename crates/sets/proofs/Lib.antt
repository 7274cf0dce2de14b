-- The laws of digits, of the words that they make, of numbers by their digits, of kinds of sets, and of sets.
pub mod Digits
pub mod Word
pub mod Numbers
pub mod Laws
pub mod Sets
pub mod Ones
