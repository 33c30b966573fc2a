pub mod Worded
pub mod Placing
pub mod Berthed
pub mod Worked
pub mod Told
pub mod Sandboxes
pub mod Runnable
mod Rows
