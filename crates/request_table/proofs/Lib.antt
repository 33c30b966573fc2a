pub mod Lists
pub mod Rowed
pub mod Told
pub mod Pending
pub mod Kept
pub mod Sent
pub mod Answered
