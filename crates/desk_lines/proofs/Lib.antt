-- Laws behind the contracts of this crate, and on the lengths of texts.
pub mod Putting
pub mod Decimal
