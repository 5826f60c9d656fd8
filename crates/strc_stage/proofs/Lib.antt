pub mod Tapes
pub mod Endings
pub mod Replaced
pub mod Renamed
pub mod Answering
pub mod Piping
pub mod StagesFit
