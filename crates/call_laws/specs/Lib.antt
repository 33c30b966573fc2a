pub mod Moments
pub mod Matches
