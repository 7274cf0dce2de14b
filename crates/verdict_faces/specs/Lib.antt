-- What contracts of this crate and its callers cite beside the paper.
-- one face of a table and its normal form
pub mod Form
-- the whole list: 21, 22 and the candidates of its faces
pub mod Named
-- what each pass over the list answers
pub mod Passes
