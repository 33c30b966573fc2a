pub mod Dies
mod Faults
mod Orders
