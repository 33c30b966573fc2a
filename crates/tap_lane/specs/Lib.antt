-- What contracts cite of a tap lane.
pub mod Heard
pub mod Taking
pub mod Lane
pub mod Working
