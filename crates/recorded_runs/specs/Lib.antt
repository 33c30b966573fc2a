-- What contracts cite of a recorded run.
pub mod Recorded
