pub mod Orders
pub mod Texts
pub mod Runs
