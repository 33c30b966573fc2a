pub mod Ends
pub mod Premises
pub mod Stands
