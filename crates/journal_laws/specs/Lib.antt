pub mod Invariant
pub mod Steps
pub mod IsLegal
pub mod Finished
pub mod Paid
