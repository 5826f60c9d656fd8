pub mod Shares
pub mod Orders
pub mod Texts
pub mod Runs
pub mod Ends
