pub mod Firsts
pub mod WholeCopies
pub mod Placed
pub mod Plans
pub mod Sounds
pub mod SpawnLimits
mod Rows
pub mod Sandboxed
