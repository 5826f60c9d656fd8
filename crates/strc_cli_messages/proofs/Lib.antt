pub mod Pairing
pub mod Refusing
pub mod Saying
pub mod Telling
pub mod Wording
