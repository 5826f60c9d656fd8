pub mod TapeLists
pub mod Counting
pub mod ServedRounds
pub mod Endings
