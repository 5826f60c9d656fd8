pub mod Labels
pub mod Outlines
pub mod Paths
