pub mod Histories
pub mod Ruled
pub mod Reasons
pub mod Lines
pub mod Quiet
pub mod Begins
pub mod Parts
pub mod Same
