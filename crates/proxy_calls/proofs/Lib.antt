pub mod Replies
pub mod Entries
pub mod Askings
pub mod Reportings
pub mod Lookings
pub mod Claimings
pub mod Making
