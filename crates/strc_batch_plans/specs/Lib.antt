pub mod Batched
pub mod Rings
pub mod Plans
pub mod Rows
