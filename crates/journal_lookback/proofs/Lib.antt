pub mod LookedBack
pub mod States
pub mod Judged
