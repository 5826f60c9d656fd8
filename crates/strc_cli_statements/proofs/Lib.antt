pub mod Lengths
pub mod Peeked
pub mod Uncounted
pub mod Walks
