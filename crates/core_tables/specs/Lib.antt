pub mod Lanes
pub mod Last
pub mod Matches
pub mod Seats
pub mod Greetings
pub mod Slots
pub mod Stands
