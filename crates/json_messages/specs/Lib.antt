pub mod Answers
pub mod Keys
pub mod Top
pub mod Values
pub mod Messages
pub mod Writing
pub mod OneLine
