pub mod Networks
pub mod Emitting
pub mod Slots
