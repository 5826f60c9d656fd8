pub mod Beginnings
pub mod Headings
pub mod Joining
pub mod NamedNodes
pub mod Orders
pub mod Trees
