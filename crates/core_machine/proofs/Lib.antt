pub mod Saying
pub mod Filling
pub mod Turns
pub mod Beginning
pub mod Own
pub mod Marking
pub mod Wakings
