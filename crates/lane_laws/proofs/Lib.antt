pub mod Ins
pub mod Steps
pub mod Owing
pub mod Tapping
pub mod Numbering
pub mod Leaving
pub mod Untaken
pub mod Halting
mod Rows
mod Tellers
mod Pipelines
