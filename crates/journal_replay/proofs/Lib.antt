pub mod Told
pub mod Steps
pub mod Pieces
pub mod Taken
pub mod Once
pub mod Texts
pub mod Stages
