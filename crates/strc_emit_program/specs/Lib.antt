pub mod Fires
pub mod Orders
pub mod Programs
