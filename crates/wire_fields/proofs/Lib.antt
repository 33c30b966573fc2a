pub mod Digits
pub mod Spans
pub mod Messages
pub mod Again
pub mod Grammar
pub mod Values
pub mod Readings
