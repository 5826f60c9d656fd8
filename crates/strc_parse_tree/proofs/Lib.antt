pub mod Views
pub mod Blocks
pub mod Calls
