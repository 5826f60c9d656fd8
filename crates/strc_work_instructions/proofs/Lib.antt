pub mod Insts
pub mod Words
