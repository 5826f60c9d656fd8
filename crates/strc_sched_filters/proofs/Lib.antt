pub mod Identities
pub mod LaneFirings
