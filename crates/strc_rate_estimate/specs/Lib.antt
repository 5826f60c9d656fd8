pub mod Estimates
pub mod Filters
pub mod Rows
pub mod Tables
