pub mod Telling
pub mod Answers
pub mod Naming
pub mod Alone
pub mod Running
pub mod Piped
pub mod Laws
