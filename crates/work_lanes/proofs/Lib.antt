-- Lemmas of this crate.
pub mod Fronts
pub mod Pieces
pub mod Ends
pub mod Following
pub mod Crewing
pub mod Calling
pub mod Lending
pub mod Leaving
pub mod Idle
