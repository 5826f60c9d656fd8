pub mod Lines
pub mod Texts
pub mod NodeTexts
pub mod Names
