-- What contracts cite of a run's values.
pub mod Settings
pub mod Work
pub mod Runnable
