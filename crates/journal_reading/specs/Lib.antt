pub mod Readings
pub mod Pulls
