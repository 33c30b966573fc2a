pub mod Course
pub mod Reads
pub mod Sources
pub mod Wanted
pub mod Works
