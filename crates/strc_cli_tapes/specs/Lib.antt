pub mod TapeNames
pub mod Parted
