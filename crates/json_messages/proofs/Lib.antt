pub mod Lists
pub mod Digits
pub mod Objects
pub mod Backs
pub mod OneLine
