pub mod Identities
pub mod Firings
