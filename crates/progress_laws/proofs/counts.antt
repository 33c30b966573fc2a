-- How many entries of each kind a journal has.
pub mod Tallies
pub mod Sorts
pub mod Tries
pub mod Sent
pub mod OfTries
pub mod Replies
pub mod OfAnswers
pub mod OfLines
pub mod OfLanes
pub mod AllCalls
pub mod Disciplines
