pub mod Emitted
pub mod Texts
