pub mod Batches
pub mod Runs
pub mod Again
pub mod Fills
pub mod Fits
pub mod Units
pub mod Rows
