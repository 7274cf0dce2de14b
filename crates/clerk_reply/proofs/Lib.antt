-- Laws behind replies.
pub mod Replying
pub mod Reading
pub mod Lent
