-- What contracts cite of the demonstration worker.
pub mod Words
pub mod Folders
pub mod Looks
pub mod Does
pub mod Once
pub mod Steps
pub mod Answers
pub mod Lanes
