pub mod Options
pub mod Values
pub mod Words
pub mod Writing
pub mod Reading
pub mod Placed
pub mod Fits
pub mod Lines
