-- What other crates say of whole numbers: how large one is, which sign it has, what some are together.
pub mod Size
pub mod Signs
pub mod Sum
