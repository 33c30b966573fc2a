-- What the laws cite.
pub mod Owed
pub mod OwnOrders
