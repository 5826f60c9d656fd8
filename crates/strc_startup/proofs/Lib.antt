pub mod Counting
pub mod Groups
pub mod Raising
pub mod Bounds
pub mod Nearing
pub mod Examples
