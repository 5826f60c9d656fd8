-- Where a stage wants memory: only at a word.
use Rattle.std.specs.Prelude.{◌≡◌, ◌≢◌, Option, Some, None}
use Rattle.strc_sched_laws.specs.Machine.{MachineView}
use Rattle.strc_sched_machine.specs.Memory.{AreQuiet, ComesToWord}
use Rattle.strc_stage_core.specs.Actors.{Stage, Step}
use Rattle.strc_stage_core.specs.Parcels.{Load, ParcelView}
use Rattle.strc_sched_outcome.specs.declared.stop.Stop.{Stop}
use Rattle.strc_sched_outcome.specs.declared.stop.Stop.TheVariants as stop
use Rattle.strc_stage_steps.specs.Stages.{see}
use Rattle.strc_stage_steps.specs.Steps.{StageState, machine_entered, stage_work}
use Rattle.strc_stage_steps.specs.declared.stage.StageParts.{StageParts}

-- A stage's order, from its machine with a load's items entered, comes to a firing that has a word
-- to give.
abbrev pub StageComesToWord : StageState → Load → Type 0
StageComesToWord state load =
    (machine : MachineView) × (state.machine ≡ Some machine)
    × ComesToWord state.circuit state.order (machine_entered state.entering load machine)

-- The firings of a round end out of memory only there.
abbrev pub WantsWordOfStage : StageState → Load → Option Stop → Type 0
WantsWordOfStage state load why = why ≡ Some stop.NoMemory → StageComesToWord state load

-- Where the parcel that comes isn't stopped and the stage has no stop, the result is stopped out
-- of memory only there.
abbrev pub StopsOnlyForWords : Stage StageState Stop → (own result : ParcelView) → Type 0
StopsOnlyForWords stage own result =
    own.stop ≡ None → stage.stop ≡ None → WantsWordOfStage stage.inner own.load result.stop

-- What a step of a stage does: it is one of the core's, and wants memory only for words.
pub record IsStep (before : StageParts) (own : ParcelView) (after : StageParts)
    (result : ParcelView) : Type 0 where
  pub step : Step stage_work (see before) own (see after) result
  pub memory : StopsOnlyForWords (see before) own result

-- ---- stages that give no words

-- No node of a stage gives words, and it hasn't stopped out of memory.
pub record IsQuiet (stage : Stage StageState Stop) : Type 0 where
  pub nodes : AreQuiet stage.inner.circuit stage.inner.order
  pub stop : stage.stop ≢ Some stop.NoMemory

-- Such a stage stays so at each step, and never stops out of memory: it makes a parcel with
-- that stop only of one that has it.
abbrev pub QuietStagesWantNoMemory : Type 0
QuietStagesWantNoMemory =
    (stage later : Stage StageState Stop) (own result : ParcelView)
    → IsQuiet stage → own.stop ≢ Some stop.NoMemory
    → Step stage_work stage own later result → StopsOnlyForWords stage own result
    → IsQuiet later × (result.stop ≢ Some stop.NoMemory)
