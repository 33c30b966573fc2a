pub mod Fronts
pub mod Lasting
pub mod Ahead
