-- What the runs are proved by.
pub mod Cores
pub mod Fits
pub mod PlacedSilent
pub mod Promises
pub mod SharedNamed
pub mod SharedSilent
pub mod StrategicNamed
pub mod StrategicSilent
