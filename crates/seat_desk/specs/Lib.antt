-- What the contracts of this crate cite.
pub mod History
pub mod Logs
pub mod Helds
pub mod Turns
pub mod Desks
pub mod Passes
