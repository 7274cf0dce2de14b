-- The table's 13, of two segments: the tests say just that there is a common point.
-- The point is given by its place along each segment, a fraction of whole numbers. The first segment has two ends: a is not b.
pub mod On
pub mod Crossing
pub mod Along
pub mod Meeting
pub use On.{on_open_means}
pub use Meeting.{open_meets_means}
