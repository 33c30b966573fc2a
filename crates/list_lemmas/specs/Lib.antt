pub mod Places
pub mod Options
