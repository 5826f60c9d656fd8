pub mod Reading
pub mod Tapes
pub mod Marks
pub mod Plain
pub mod Serving
