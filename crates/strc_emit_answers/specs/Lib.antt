pub mod Given
pub mod Spelled
pub mod Orders
pub mod Fires
pub mod Answers
