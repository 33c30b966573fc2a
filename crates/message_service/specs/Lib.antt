-- What contracts cite of programs that answer messages.
pub mod Calls
pub mod Stream
pub mod Turns
pub mod Ends
pub mod Serves
pub mod Steps
