-- What the contracts of this crate cite.
pub mod Calls
pub mod Handles
pub mod Serves
pub mod Reading
pub mod Crews
