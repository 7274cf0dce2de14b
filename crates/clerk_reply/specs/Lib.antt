-- What contracts on replies cite beside the paper: docs/PIPE.md as definitions.
pub mod Replies
pub mod Requests
pub mod Held
pub mod Codes
