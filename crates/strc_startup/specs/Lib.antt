pub mod Startup
pub mod Rates
pub mod Waiting
pub mod Grouping
pub mod Raises
pub mod Sentences
pub mod Examples
