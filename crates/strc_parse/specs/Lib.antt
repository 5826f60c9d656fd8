pub mod Seen
pub mod Readers
pub mod Parts
pub mod Placed
pub mod Texts
