pub mod Refinement
pub mod Plain
pub mod Showing
pub mod Untested
pub mod Codes
pub mod Rows
pub mod Known
