pub mod Paths
pub mod Starts
