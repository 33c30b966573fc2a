-- What contracts cite of a proxy lane.
pub mod Held
pub mod Sites
pub mod Writing
