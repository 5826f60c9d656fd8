pub mod RateViews
pub mod Spelling
pub mod Grown
pub mod Placed
