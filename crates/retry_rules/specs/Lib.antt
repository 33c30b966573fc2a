pub mod Counts
pub mod Stands
pub mod Entries
