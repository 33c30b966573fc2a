pub mod Chosen
pub mod Choices
pub mod Placing
pub mod SpawnWords
pub mod SpawnOptions
