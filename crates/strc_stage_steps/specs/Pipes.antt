-- The states of a ring of a plan's stages.
use Rattle.std.specs.Prelude.{◌≡◌, suc, ◌<◌, ◌≤◌, true, false}
use Rattle.strc_stage_core.specs.declared.event.Event.{Event}
use Rattle.strc_stage_core.specs.declared.event.Event.TheVariants.{Take, Give}
use Rattle.strc_stage_core.specs.Events.{may, acts, most_acts}
use Rattle.strc_stage_core.specs.States.{Start, Core, IsState}
use Rattle.strc_sched_outcome.specs.declared.stop.Stop.{Stop}
use Rattle.strc_stage_core.specs.Parcels.{Load}
use Rattle.strc_stage_steps.specs.Steps.{StageState, Gathered, stage_work}

-- What the core sees of a ring, and of what it begins with.
abbrev pub PipeView : Type 0
PipeView = Core StageState Load Stop Gathered

abbrev pub Beginning : Type 0
Beginning = Start StageState Load Stop Gathered

-- A state of this start; and of some start.
abbrev pub IsStateOf : Beginning → PipeView → Type 0
IsStateOf start core = IsState stage_work start core

abbrev pub IsSomeState : PipeView → Type 0
IsSomeState core = (start : Beginning) × IsStateOf start core

-- Each state stays one, of the same start.
abbrev pub KeepsStates : (old new : PipeView) → Type 0
KeepsStates old new = (start : Beginning) → IsStateOf start old → IsStateOf start new

-- An event more, within the same bound.
abbrev pub IsCounted : (old new : PipeView) → Type 0
IsCounted old new = (acts new ≡ suc (acts old)) × (most_acts new ≡ most_acts old)
    × (acts new ≤ most_acts new)

-- Events by their actors, from the first stage on; an actor's gift comes before its taking.
abbrev pub Precedes : Event → Event → Type 0
Precedes (Take before) (Take after) = before < after
Precedes (Take before) (Give after) = before < after
Precedes (Give before) (Take after) = before ≤ after
Precedes (Give before) (Give after) = before < after

-- The first event that is allowed.
pub record IsFirstAllowed (core : PipeView) (event : Event) : Type 0 where
  pub allowed : may core event ≡ true
  pub none_before : (other : Event) → Precedes other event → may core other ≡ false
