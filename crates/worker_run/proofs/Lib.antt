pub mod Fits
pub mod Fronts
pub mod Histories
pub mod Keeping
pub mod OwnRun
pub mod Making
pub mod Numbered
pub mod Putting
pub mod Reading
pub mod Said
mod Unsaid
