pub mod Replies
pub mod Entries
mod Goings
mod Listening
mod Leaving
mod Passing
