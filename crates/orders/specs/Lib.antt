pub mod Orders
pub mod Least
