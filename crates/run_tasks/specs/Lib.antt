pub mod Course
pub mod Tasks
pub mod Laws
pub mod Setup
