pub mod Bases
mod DealtCounts
pub mod Each
pub mod Fusing
mod Grouped
pub mod Joining
pub mod KeptOrders
pub mod Lookup
mod Namings
pub mod NewRounds
mod NodeRates
mod OneChannel
mod Outcome
mod Outcomes
pub mod OwnUnits
pub mod PartCounts
pub mod Pieced
pub mod Planned
pub mod Renaming
pub mod RoundBlocks
pub mod Sequences
pub mod Shares
pub mod SplitNodes
pub mod Wires
