pub mod CommandWords
pub mod FaultlessRows
pub mod FaultlessWords
pub mod LineWords
pub mod Parsers
