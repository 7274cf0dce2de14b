-- What contracts say of words as lists of digits, of kinds of sets, and of sets.
pub mod Word
pub mod Kinds
pub mod Sets
