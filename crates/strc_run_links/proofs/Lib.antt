pub mod Iterating
pub mod Chains
pub mod Joins
pub mod Threads
pub mod Cores
pub mod Rounds
pub mod Rules
