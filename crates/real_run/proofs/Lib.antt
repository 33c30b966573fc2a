pub mod Each
mod Told
mod Serving
pub mod Whole
