pub mod Gathered
pub mod Collecting
pub mod Filling
pub mod Words
pub mod Steps
pub mod Turns
pub mod Working
pub mod Wanting
pub mod QuietStages
pub mod Fitting
mod Timely
mod Acting
mod Moving
mod Happening
mod Beginning
mod Advancing
pub mod Folds
pub mod Lifting
pub mod Ports
pub mod OwnSteps
pub mod OwnRuns
pub mod Crossings
pub mod Passing
pub mod Setting
pub mod Held
pub mod OneStep
pub mod Follows
pub mod Links
pub mod Fresh
pub mod Totals
pub mod Chain
pub mod Alike
pub mod RoundsCome
pub mod HeldStages
pub mod ParcelsFit
pub mod Carrying
pub mod Rows
pub mod Room
pub mod Endings
pub mod OneMachine
pub mod Own
pub mod Running
pub mod SplitRingsRoom
pub mod Rings
pub mod Started
pub mod Plans
pub mod Tapes
pub mod Naming
pub mod PlanRuns
pub mod StagesFit
pub mod NewLoops
pub mod Places
pub mod NewForward
pub mod SplitUnits
pub mod Staged
pub mod SplitRingsRows
pub mod Nodes
pub mod FilledChannels
pub mod HandedOn
pub mod Numbers
pub mod Waiting
pub mod Holding
pub mod DealtRoom
pub mod DealtRows
