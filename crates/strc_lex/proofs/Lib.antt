pub mod Finding
pub mod TriviaRuns
pub mod Lexemes
pub mod Lexing
pub mod Only
pub mod Runs
pub mod Strings
pub mod Tokens
