-- What contracts cite of runs on placed berths over real objects.
pub mod Placed
pub mod Shared
pub mod Strategic
