pub mod PartedTapes
pub mod ToldApart
