-- What contracts of the program that answers over a pipe cite.
pub mod Read
