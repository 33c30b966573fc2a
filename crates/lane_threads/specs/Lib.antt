-- What the contracts of this crate cite.
pub mod Jobs
pub mod Lanes
pub mod Callers
pub mod Pairs
pub mod LaneJobs
pub mod Parts
pub mod Beside
