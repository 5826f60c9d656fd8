pub mod OccurrencePlaces
pub mod Occurrences
pub mod Statements
