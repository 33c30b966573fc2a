pub mod Words
pub mod Pools
pub mod Tasks
pub mod Course
