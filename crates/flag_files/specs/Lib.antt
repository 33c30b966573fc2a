pub mod Expand
pub mod Split
