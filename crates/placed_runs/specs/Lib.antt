pub mod Fronts
pub mod RunLaws
pub mod SharedHeadline
pub mod StrategicHeadline
