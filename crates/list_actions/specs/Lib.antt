pub mod Answers
pub mod Made
pub mod Makers
pub mod Order
pub mod Producers
pub mod Seen
pub mod Tables
pub mod Whole
