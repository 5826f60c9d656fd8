pub mod Wrapping
pub mod Growth
pub mod Turns
pub mod ConstantValues
pub mod Calls
