pub mod Verdicts
pub mod HasNodes
pub mod TargetView
pub mod Connecting
pub mod Assembly
