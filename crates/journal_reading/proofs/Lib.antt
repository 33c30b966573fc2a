pub mod Rows
pub mod Steps
pub mod Passing
pub mod Scalars
pub mod Names
pub mod Signs
pub mod Ticks
pub mod Whole
