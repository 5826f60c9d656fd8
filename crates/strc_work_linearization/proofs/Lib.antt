pub mod Flattening
pub mod HalfBranches
pub mod Linking
