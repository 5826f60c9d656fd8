pub mod Spelling
pub mod Bodies
