pub mod Fault
pub mod Value
pub mod Response
pub mod ResponseLaws
pub mod Input
pub mod InputLaws
pub mod Request
pub mod RequestLaws
