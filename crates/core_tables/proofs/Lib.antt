pub mod Written
pub mod Seated
pub mod Lengths
pub mod Filled
pub mod Kept
