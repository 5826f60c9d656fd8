pub mod Counted
pub mod Groups
pub mod PickedGroups
pub mod Rows
pub mod WeighedBounds
