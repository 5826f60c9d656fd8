pub mod Readers
pub mod Startups
pub mod Answers
pub mod Dealt
pub mod NewReader
pub mod Runs
