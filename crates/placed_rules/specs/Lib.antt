-- What the laws cite.
pub mod Pools
pub mod Due
pub mod Needs
pub mod Own
pub mod Shared
pub mod Placed
pub mod Bounds
pub mod Kept
pub mod Evicted
pub mod Runnable
