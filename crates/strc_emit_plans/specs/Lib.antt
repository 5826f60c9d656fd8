pub mod Calls
pub mod Programs
pub mod Finds
pub mod Firsts
pub mod Answers
