-- What contracts cite of a proxy lane.
pub mod Acts
pub mod Lanes
pub mod Steps
