pub mod Greeted
pub mod InOrder
pub mod Idle
