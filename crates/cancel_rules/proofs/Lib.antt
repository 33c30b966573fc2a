pub mod Marked
pub mod Followed
