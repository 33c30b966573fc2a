pub mod Spoken
pub mod Berths
