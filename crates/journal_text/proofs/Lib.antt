pub mod Plain
pub mod Back
pub mod Written
