pub mod LocalWrites
pub mod Calls
pub mod Stateless
pub mod Walk
pub mod Writers
