pub mod Asked
pub mod Moments
