-- What contracts cite of a run over the real objects.
pub mod Objects
pub mod Tells
pub mod Rooms
pub mod Whole
