-- What contracts cite of a proxy lane's calls.
pub mod Calls
pub mod Goods
pub mod Orders
pub mod Reports
pub mod Looks
pub mod Claims
pub mod Grants
