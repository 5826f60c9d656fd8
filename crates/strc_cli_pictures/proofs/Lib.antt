pub mod ChannelLines
pub mod Labels
pub mod PartCounts
mod Shares
mod StageBoxes
