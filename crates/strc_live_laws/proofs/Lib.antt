pub mod Steps
pub mod Windows
pub mod Rounds
pub mod Live
pub mod Row
