-- What contracts cite of the lane that makes Ticks.
pub mod Pacers
pub mod Ticks
