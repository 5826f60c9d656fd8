-- What a plan's rounds come to by batches.
use Rattle.std.specs.Prelude.{◌≡◌, ◌≢◌, ◌⊎◌, ℕ, ◌/◌, ◌%◌, ℤ, List, Option, Some, None}
use Rattle.std.specs.declared.vec.Vec.{Vec}
use Rattle.std.specs.declared.alloc.Global.{Global}
use Rattle.strc_work_meaning.specs.declared.fault.Cause.{Cause}
use Rattle.strc_work_meaning.specs.declared.word.Word.{Word}
use Rattle.strc_sched_laws.specs.Laws.{round_order}
use Rattle.strc_sched_laws.specs.Machine.{CircuitView, MachineView, Ended, Went, order_run}
use Rattle.strc_sched_laws.specs.Machine.{rounds_run}
use Rattle.strc_sched_outcome.specs.declared.outcome.Outcome.{Outcome}
use Rattle.strc_sched_outcome.specs.declared.outcome.Outcome.TheVariants.{Done}
use Rattle.strc_sched_outcome.specs.declared.outcome.Tape.{Tape}
use Rattle.strc_sched.specs.Plain.{IsEnding}
use Rattle.strc_stage_plan.specs.Plans.{PlanParts}
use Rattle.strc_stage_steps.specs.Plans.{IsReadyFor}
use Rattle.strc_stage_cut.specs.Startups.{HasFaulted}
use Rattle.strc_stage.specs.Naming.{IsRenamed}
use Rattle.strc_batch_plans.specs.Batched.{EndsByBatches, order_of}
use Rattle.strc_batch_plans.specs.Plans.{HasStartedIn, WentThrough}
use Rattle.strc_batch.specs.Batches.{BatchParts, batching}

-- An order doesn't come to its end: a firing faults.
abbrev pub NeverGoes : CircuitView → (order : List ℕ) → MachineView → Type 0
NeverGoes circuit order machine =
    (later : MachineView) → order_run circuit order machine ≢ Went later

-- An outcome isn't one without a fault.
abbrev pub IsNeverDone : Outcome → Type 0
IsNeverDone outcome = (tapes : Vec Tape Global) → outcome ≢ Done tapes

-- The firings of a batch in order.
abbrev pub batch_firings : PlanParts → BatchParts → List ℕ
batch_firings plan batch = order_of (batching plan batch.rounds)

-- A machine came to the end of so many rounds by batches, and these are its tapes by the nodes
-- before fission.
pub record HasRunBatches (plan : PlanParts) (batch : BatchParts) (circuit : CircuitView)
    (machine : MachineView) (rounds : ℕ) (tapes : Vec Tape Global) : Type 0 where
  pub later : MachineView
  pub went : WentThrough plan (rounds % batch.rounds) circuit machine later
  pub words : List (List Word)
  pub ends : rounds_run circuit (batch_firings plan batch) (rounds / batch.rounds) 0 later
      ≡ Ended words
  pub own : Outcome
  pub ending : IsEnding circuit.codes own (Ended words)
  pub renamed : IsRenamed plan own (Done tapes)

-- Or it comes to no end by them.
abbrev pub ComesByBatches : PlanParts → BatchParts → CircuitView → MachineView → (rounds : ℕ)
    → Option (Vec Tape Global) → Type 0
ComesByBatches plan batch circuit machine rounds (Some tapes) =
    HasRunBatches plan batch circuit machine rounds tapes
ComesByBatches plan batch circuit machine rounds None =
    EndsByBatches circuit (round_order plan.split.schedule) (batch_firings plan batch)
    (rounds % batch.rounds) (rounds / batch.rounds) machine → ⊥

-- A firing of start-up faulted.
pub record StartupFaults (plan : PlanParts) (input : List ℤ) : Type 0 where
  pub node : ℕ
  pub firing : ℕ
  pub cause : Cause
  pub faulted : HasFaulted plan input node firing cause

-- Start-up went to its end, and the machine that it left, over rings of these sizes, comes to no
-- end of so many rounds one by one.
pub record RoundsFault (plan : PlanParts) (sizes : List ℕ) (input : List ℤ) (rounds : ℕ) : Type 0
  where
    pub old : CircuitView
    pub ready : IsReadyFor plan input old
    pub circuit : CircuitView
    pub started : MachineView
    pub startup : HasStartedIn plan sizes input old circuit started
    pub no_end : (words : List (List Word))
        → rounds_run circuit (round_order plan.split.schedule) rounds 0 started ≢ Ended words

-- Start-up faults, or one of so many rounds.
abbrev pub Faults : PlanParts → (sizes : List ℕ) → (input : List ℤ) → (rounds : ℕ) → Type 0
Faults plan sizes input rounds = StartupFaults plan input ⊎ RoundsFault plan sizes input rounds
