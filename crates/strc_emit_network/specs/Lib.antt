pub mod Seen
pub mod Later
pub mod Programs
pub mod Firings
pub mod Runs
pub mod Readers
pub mod Taken
pub mod Ranges
