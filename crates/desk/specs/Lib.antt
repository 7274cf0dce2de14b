-- What contracts of the desk program cite.
pub mod Input
