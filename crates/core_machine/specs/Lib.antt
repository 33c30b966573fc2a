-- What contracts cite of the shelf and of the bench.
pub mod Slots
pub mod Shifts
pub mod Objects
pub mod Bench
pub mod BenchLaws
pub mod Replies
pub mod Marks
pub mod Waking
