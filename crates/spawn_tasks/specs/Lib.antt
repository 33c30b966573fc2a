pub mod Faults
pub mod Wording
pub mod Tasks
pub mod Course
pub mod Laws
