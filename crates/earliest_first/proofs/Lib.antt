pub mod AtBerths
pub mod Queued
pub mod Rooms
pub mod Roomed
pub mod Oldest
pub mod First
pub mod Chosen
pub mod Resting
