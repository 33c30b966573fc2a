-- Worked journals: each law's premises hold there and its conclusion says something; and without a
-- premise it fails.
pub mod OwnBerths
pub mod Delay
pub mod SharedBerths
pub mod Unwanted
pub mod Over
pub mod Quiet
pub mod Unseated
pub mod Fullest
