pub mod Begins
pub mod Splits
pub mod Drained
pub mod Spelled
pub mod Orders
pub mod Fires
pub mod Answers
