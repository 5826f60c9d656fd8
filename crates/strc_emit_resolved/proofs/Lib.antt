pub mod Calls
pub mod Blocks
pub mod Arities
pub mod Members
pub mod Sides
pub mod Relinked
pub mod Programs
pub mod Elaborated
