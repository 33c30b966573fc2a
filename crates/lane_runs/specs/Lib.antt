-- What contracts cite of a run of lanes.
pub mod Seats
pub mod Ran
pub mod Placed
pub mod Apart
pub mod Blanks
pub mod Layout
pub mod Laws
pub mod Runs
pub mod Paced
pub mod BerthHalves
pub mod EndedLines
pub mod LineFacts
