pub mod Choices
pub mod Busy
