pub mod Signatures
pub mod Resolution
pub mod Verdicts
pub mod RefusedPlaces
