-- What follows from the words.
pub mod Goes
pub mod Alike
