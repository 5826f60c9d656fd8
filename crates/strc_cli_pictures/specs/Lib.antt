pub mod Boxes
pub mod Legends
pub mod Lists
pub mod Parts
pub mod Pictures
pub mod Stages
