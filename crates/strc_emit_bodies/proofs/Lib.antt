pub mod Written
pub mod Fires
