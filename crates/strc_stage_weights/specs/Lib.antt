pub mod FiringWork
pub mod RoundWork
pub mod StageBounds
pub mod StepRounds
pub mod Laws
pub mod Rows
