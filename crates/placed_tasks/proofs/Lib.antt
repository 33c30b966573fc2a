-- What the tasks on any berths are proved by.
pub mod Limits
pub mod Seated
pub mod Told
mod Rows
