-- What the laws are proved by.
pub mod Members
pub mod Moved
pub mod Noted
pub mod Held
pub mod Matched
pub mod Waiting
pub mod LineWaits
pub mod LineCounts
pub mod LastLines
pub mod GroupLines
pub mod Lines
pub mod StarvedGroups
pub mod NextStarved
pub mod AllLines
pub mod Evictions
mod WordRows
mod GroupRows
mod EvictionRows
