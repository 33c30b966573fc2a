pub mod Decoding
pub mod Pushes
pub mod Measures
pub mod Requests
pub mod Ways
