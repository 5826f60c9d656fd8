pub mod Carriers
pub mod Works
pub mod Idle
pub mod Firings
pub mod Quiet
pub mod TapeNodes
