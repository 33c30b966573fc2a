pub mod Turning
pub mod Sided
