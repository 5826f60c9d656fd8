pub mod Bytes
pub mod NumberWords
pub mod Inputs
pub mod InputPieces
pub mod Given
pub mod NumberScans
pub mod Pulls
