pub mod Matches
pub mod Queue
pub mod Facts
pub mod Board
pub mod Stands
pub mod Entries
