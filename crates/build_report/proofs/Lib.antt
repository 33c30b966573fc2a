pub mod Marks
pub mod Statuses
pub mod Told
