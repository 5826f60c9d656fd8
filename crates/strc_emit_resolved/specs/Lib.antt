pub mod Resolved
pub mod Programs
pub mod Elaborated
