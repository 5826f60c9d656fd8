pub mod Functions
pub mod Known
pub mod Firings
