pub mod Joined
pub mod Ends
pub mod Codes
pub mod Parts
