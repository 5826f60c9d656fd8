-- What a plan's rounds come to by batches, by a ring of stages.
use Rattle.std.specs.Prelude.{◌≡◌, ◌⊎◌, ℕ, ◌/◌, ◌%◌, List, Option, Some, None}
use Rattle.std.specs.declared.vec.Vec.{Vec}
use Rattle.std.specs.declared.alloc.Global.{Global}
use Rattle.strc_elab_dataflow.specs.Staging.{repeated}
use Rattle.strc_sched_laws.specs.Laws.{round_order}
use Rattle.strc_sched_laws.specs.Machine.{CircuitView, MachineView}
use Rattle.strc_sched_outcome.specs.declared.outcome.Outcome.{Outcome}
use Rattle.strc_sched_outcome.specs.declared.outcome.Outcome.TheVariants.{Done}
use Rattle.strc_sched_outcome.specs.declared.outcome.Tape.{Tape}
use Rattle.strc_sched_outcome.specs.declared.stop.Stop.{Stop}
use Rattle.strc_sched_outcome.specs.declared.stop.Stop.TheVariants as stop
use Rattle.strc_stage_plan.specs.Plans.{PlanParts}
use Rattle.strc_stage_steps.specs.Collectors.{total_of}
use Rattle.strc_stage_steps.specs.declared.collector.CollectorParts.{CollectorParts}
use Rattle.strc_stage_cut.specs.Launches.{IsRingOf, start_of}
use Rattle.strc_stage_cut.specs.Launches.{Ring}
use Rattle.strc_stage.specs.Running.{EndsSo}
use Rattle.strc_run_workers.specs.Leftovers.{Drives}
use Rattle.strc_batch_plans.specs.Plans.{WentThrough}
use Rattle.strc_batch.specs.Batches.{BatchParts}
use Rattle.strc_run_batches.specs.Batched.{IsNeverDone, NeverGoes}

-- A ring over this machine went through so many steps, a batch each, to its end, and its collector
-- has come to this.
pub record HasRunRing (plan : PlanParts) (batch : BatchParts) (bounds : List ℕ)
    (circuit : CircuitView) (machine : MachineView) (steps : ℕ) (ended : CollectorParts) : Type 0
  where
    pub ring : Ring
    pub ring_is : IsRingOf plan batch.units bounds circuit machine steps ring
    pub drives : Drives (start_of ring) ended

-- A firing stopped it.
abbrev pub IsFault : Option Stop → Type 0
IsFault (Some (stop.Fault node firing cause)) = Unit {0}
IsFault _ = ⊥

-- A collector that nothing stopped tells of no tapes.
pub record TellsNone (plan : PlanParts) (ended : CollectorParts) : Type 0 where
  pub no_stop : ended.stop ≡ None
  pub outcome : Outcome
  pub ends : EndsSo plan (total_of ended) ended.stop outcome
  pub never : IsNeverDone outcome

-- The tapes that it has come to, where nothing stopped it.
abbrev pub TellsTapes : PlanParts → CollectorParts → Option (Vec Tape Global) → Type 0
TellsTapes plan ended (Some tapes) =
    (ended.stop ≡ None) × EndsSo plan (total_of ended) ended.stop (Done tapes)
TellsTapes plan ended None = IsFault ended.stop ⊎ TellsNone plan ended

-- A machine went through the rounds that are no whole batch, and a ring of the stages with these
-- bounds over what it came to has run the batches; these are the tapes.
pub record HasRunStages (plan : PlanParts) (batch : BatchParts) (bounds : List ℕ)
    (circuit : CircuitView) (machine : MachineView) (rounds : ℕ)
    (found : Option (Vec Tape Global)) : Type 0 where
  pub later : MachineView
  pub went : WentThrough plan (rounds % batch.rounds) circuit machine later
  pub ended : CollectorParts
  pub ran : HasRunRing plan batch bounds circuit later (rounds / batch.rounds) ended
  pub tells : TellsTapes plan ended found

-- Or a firing of those rounds faulted.
abbrev pub ComesByRing : PlanParts → BatchParts → (bounds : List ℕ) → CircuitView → MachineView
    → (rounds : ℕ) → Option (Vec Tape Global) → Type 0
ComesByRing plan batch bounds circuit machine rounds found =
    HasRunStages plan batch bounds circuit machine rounds found
    ⊎ ((found ≡ None) × NeverGoes circuit
    (repeated (rounds % batch.rounds) (round_order plan.split.schedule)) machine)
