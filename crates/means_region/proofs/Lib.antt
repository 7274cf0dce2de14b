-- How often the faces of a solid go round a point.
pub mod Table
pub mod Move
pub mod Fan
pub mod Cancel
pub mod Near
pub mod Counts
pub mod Apex
pub mod Some
pub mod Far
pub mod Winds
pub mod Known
