pub mod Growth
pub mod Walks
pub mod CalledNames
pub mod Chains
pub mod Search
pub mod HelperLaws
