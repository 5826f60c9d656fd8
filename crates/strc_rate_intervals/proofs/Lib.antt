pub mod Narrowing
pub mod LoopValues
pub mod IntervalGrowth
