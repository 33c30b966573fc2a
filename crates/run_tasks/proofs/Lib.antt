pub mod Berths
pub mod Courses
pub mod Fits
mod Rows
pub mod Runnable
pub mod Works
pub mod AtBerths
mod SpeechRows
pub mod Spoken
