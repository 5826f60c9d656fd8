pub mod Sizes
pub mod Listed
pub mod Batches
pub mod Choice
pub mod Rows
