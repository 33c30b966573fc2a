-- What the tasks of shared berths are proved by.
pub mod Pooled
pub mod Bare
pub mod Runnable
pub mod Drawn
pub mod Told
