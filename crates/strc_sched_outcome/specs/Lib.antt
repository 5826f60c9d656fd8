pub mod Sentences
pub mod Tapes
