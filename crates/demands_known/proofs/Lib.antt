-- Known drawings under the demands: so no statement is empty.
pub mod Drawings
pub mod Samples
pub mod Moved
pub mod Numbers
pub mod Renumbered
