-- Lemmas of this crate.
pub mod Doing
pub mod Greeted
