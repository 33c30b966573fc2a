pub mod Carried
pub mod Unbound
pub mod Kept
pub mod Places
