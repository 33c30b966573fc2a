-- What the laws cite.
pub mod Awaits
pub mod Rests
pub mod Quiet
pub mod Unwanted
pub mod Moments
pub mod Few
