-- What contracts cite of a proxy lane's deeds.
pub mod Settings
pub mod Deeds
pub mod Told
pub mod Lines
pub mod Ends
