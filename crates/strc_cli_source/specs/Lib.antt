pub mod Headings
pub mod Joined
pub mod NodeWords
pub mod Operators
pub mod Preorders
pub mod Rates
pub mod Spelling
pub mod Tokens
