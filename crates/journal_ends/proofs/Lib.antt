pub mod Replayed
pub mod Ended
pub mod Answered
pub mod Succeeded
