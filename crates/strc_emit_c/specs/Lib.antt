pub mod C
pub mod Meaning
pub mod Spelling
