-- What the contracts of this crate cite.
pub mod States
pub mod StateLaws
pub mod Sides
