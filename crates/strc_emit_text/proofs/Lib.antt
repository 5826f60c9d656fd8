mod Joining
pub mod Pushing
