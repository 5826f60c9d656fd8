pub mod Outs
pub mod Texts
pub mod Executes
