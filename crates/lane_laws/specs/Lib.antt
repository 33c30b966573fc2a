-- What contracts cite of a history whose lanes have ended.
pub mod Pipes
pub mod Numbers
pub mod Places
pub mod Taps
pub mod Lines
pub mod Lanes
pub mod Halts
