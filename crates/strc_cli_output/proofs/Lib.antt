pub mod NodeWorks
pub mod Orders
pub mod Pieces
pub mod PlanLines
pub mod Pushing
pub mod Sums
pub mod Texts
