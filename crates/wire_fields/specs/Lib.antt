pub mod Varint
pub mod Grammar
pub mod Field
pub mod Message
pub mod Spelling
pub mod After
pub mod Readings
