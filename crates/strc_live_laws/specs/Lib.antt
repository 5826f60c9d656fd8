pub mod Windows
pub mod Rounds
pub mod Live
pub mod Rows
