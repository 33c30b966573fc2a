-- What the contracts of this crate cite.
pub mod AdderSums
pub mod CounterSums
pub mod CounterLaws
pub mod Shelf
pub mod ShelfLaws
pub mod Stamps
pub mod Lanes
pub mod Ends
pub mod Slots
