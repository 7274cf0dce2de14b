-- Laws behind a request that is read, and a reply that is written.
pub mod Standing
pub mod Taken
