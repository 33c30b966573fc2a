pub mod Bridge
pub mod Known
pub mod BoundFor
pub mod Listed
pub mod EndsNone
pub mod Worked
mod Rows
pub mod AllFacts
