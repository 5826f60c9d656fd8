pub mod Variables
pub mod Helpers
pub mod Arrays
pub mod Filters
