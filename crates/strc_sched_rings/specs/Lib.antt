pub mod Answers
pub mod Words
pub mod Turns
pub mod Pairs
pub mod Apart
pub mod Circuits
pub mod Parts
pub mod Units
