pub mod Feeding
pub mod Beginning
