pub mod Composing
pub mod Members
pub mod Begun
pub mod Entries
pub mod HelperCalls
pub mod Firing
