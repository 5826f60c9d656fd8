pub mod Trees
pub mod Appended
pub mod Views
pub mod NodeCounts
pub mod Wiring
pub mod Assembled
pub mod Repeats
