pub mod Moves
pub mod Texts
pub mod Meaning
pub mod Passing
