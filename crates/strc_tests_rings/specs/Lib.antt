pub mod Toys
pub mod Views
pub mod Laws
