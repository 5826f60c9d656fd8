pub mod Lines
pub mod Outs
