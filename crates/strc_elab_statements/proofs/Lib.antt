pub mod Slots
pub mod Surroundings
pub mod NameTables
pub mod Dealing
pub mod Refusals
pub mod TypeRows
pub mod WeightsMeet
pub mod Arguments
