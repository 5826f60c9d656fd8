-- The stages that are made of the machine after start-up.
use Rattle.std.specs.Prelude.{◌≡◌, ℕ, nat_eq, List, Some, None, slice_get}
use Rattle.strc_sched_laws.specs.Machine.{CircuitView, MachineView}
use Rattle.strc_stage_core.specs.States.{IsFresh}
use Rattle.strc_stage_steps.specs.Beginnings.{IsStageOf}
use Rattle.strc_stage_steps.specs.Runnings.{Running}
use Rattle.strc_stage_steps.specs.Stages.{see, state_of}
use Rattle.strc_stage_steps.specs.declared.stage.StageParts.{StageParts}
use Rattle.strc_stage_cut.specs.Bounds.{bound_in, last_of}

-- A stage before its first step, which has finished where there are no rounds.
pub record IsMade (running : Running) (bounds : List ℕ) (circuit : CircuitView)
    (started : MachineView) (rounds stage : ℕ) (own : StageParts) : Type 0 where
  pub state : IsStageOf running (bound_in bounds) (last_of bounds) circuit started stage
      (state_of own)
  pub fresh : IsFresh (nat_eq stage 0) rounds (nat_eq rounds 0) (see own)
  pub no_stop : own.stop ≡ None

-- The stages by their numbers.
abbrev pub AreMade : Running → (bounds : List ℕ) → CircuitView → (started : MachineView)
    → (rounds : ℕ) → List StageParts → Type 0
AreMade running bounds circuit started rounds stages =
    (stage : ℕ) (own : StageParts) → slice_get stages stage ≡ Some own
    → IsMade running bounds circuit started rounds stage own
