pub mod Last
pub mod Losses
