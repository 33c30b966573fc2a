pub mod Replay
pub mod Endings
pub mod Winning
pub mod Successes
