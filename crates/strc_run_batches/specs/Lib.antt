pub mod Batched
pub mod Ringed
