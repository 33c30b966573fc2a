-- What contracts cite of the small programs.
pub mod Executes
pub mod Demo
