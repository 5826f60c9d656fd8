pub mod Runs
pub mod Starts
pub mod Serving
