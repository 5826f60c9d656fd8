pub mod Layouts
pub mod Prework
pub mod Emitted
pub mod Built
pub mod HelperScopes
