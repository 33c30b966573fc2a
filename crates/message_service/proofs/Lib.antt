pub mod Made
pub mod Turns
pub mod Streams
pub mod Rounds
