pub mod Does
pub mod Looks
pub mod Coming
pub mod Answering
pub mod Fits
