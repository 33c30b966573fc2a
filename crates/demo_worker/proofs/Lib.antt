pub mod Finding
pub mod Doing
pub mod Answering
pub mod Texts
pub mod Handling
