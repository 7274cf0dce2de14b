-- What contracts of this crate cite beside the paper.
pub mod Words
pub mod Lists
pub mod Volume
