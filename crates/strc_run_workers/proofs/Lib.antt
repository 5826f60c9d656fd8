pub mod Rings
pub mod CodeCrosses
pub mod StageCrosses
