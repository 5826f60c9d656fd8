pub mod Placing
pub mod Reports
