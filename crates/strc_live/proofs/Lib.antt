pub mod Writing
pub mod Steps
pub mod Beginnings
pub mod Reports
pub mod Faults
