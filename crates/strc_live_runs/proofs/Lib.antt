pub mod Rounds
pub mod Starts
pub mod Served
