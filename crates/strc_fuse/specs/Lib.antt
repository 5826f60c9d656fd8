pub mod Fusion
pub mod Laws
pub mod Rows
pub mod Sentences
pub mod Steps
pub mod Units
pub mod FusedLaws
