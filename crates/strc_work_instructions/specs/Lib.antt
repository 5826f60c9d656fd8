pub mod Slots
pub mod Running
pub mod Dispatch
pub mod Windows
