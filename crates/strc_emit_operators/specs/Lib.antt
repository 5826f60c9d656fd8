pub mod Expressions
pub mod Meaning
pub mod Operators
pub mod Spelling
pub mod Laws
pub mod Rows
