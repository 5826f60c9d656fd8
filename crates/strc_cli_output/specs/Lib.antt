pub mod Output
pub mod Pieces
pub mod Works
pub mod Totals
pub mod NodeOrders
