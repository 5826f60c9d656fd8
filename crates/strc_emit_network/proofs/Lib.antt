pub mod Seen
pub mod Later
pub mod Readers
pub mod Nodes
pub mod Firings
pub mod Runs
pub mod Taken
pub mod Ranges
