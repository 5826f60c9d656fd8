pub mod Places
pub mod Excerpts
pub mod Messages
pub mod Diagnostics
