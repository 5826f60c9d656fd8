pub mod Texts
pub mod Copying
pub mod Dealing
pub mod Gathering
pub mod Shares
pub mod Nodes
