pub mod Marks
pub mod Stands
pub mod Entries
