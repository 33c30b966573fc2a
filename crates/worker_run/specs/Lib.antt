-- What contracts cite of a run.
pub mod Ends
pub mod Fronts
pub mod Headline
pub mod Own
pub mod Pacers
pub mod Pacing
pub mod Histories
pub mod Lanes
pub mod Seen
