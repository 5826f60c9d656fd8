pub mod Answering
pub mod Endings
pub mod Turns
pub mod Resized
pub mod Ringing
