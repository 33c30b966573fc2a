pub mod Choices
pub mod Machine
pub mod Noted
pub mod Reports
pub mod Steps
