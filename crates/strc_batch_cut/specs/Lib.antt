pub mod Picks
pub mod Weighed
pub mod Plans
pub mod Work
pub mod Rows
