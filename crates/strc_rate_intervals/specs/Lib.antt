pub mod Constant
pub mod Loops
pub mod Intervals
pub mod Seen
