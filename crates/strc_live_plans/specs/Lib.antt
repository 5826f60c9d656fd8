pub mod Startups
pub mod Answers
pub mod Readers
pub mod Runs
