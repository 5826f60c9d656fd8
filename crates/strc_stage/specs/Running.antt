-- What the rounds of a ring come to.
use Rattle.std.specs.Prelude.{◌≡◌, true, ℤ, List, Option}
use Rattle.strc_elab_dataflow.specs.Answer.{Outcome.StartupFault}
use Rattle.strc_sched_laws.specs.Machine.{CircuitView, MachineView}
use Rattle.strc_sched_outcome.specs.declared.stop.Stop.{Stop}
use Rattle.strc_stage_plan.specs.Plans.{PlanParts, graph_of, transformed_of}
use Rattle.strc_sched_outcome.specs.declared.outcome.Outcome.{Outcome}
use Rattle.strc_sched_outcome.specs.declared.run_refusal.RunRefusal.{RunRefusal}
use Rattle.strc_sched_outcome.specs.declared.run_refusal.RunRefusal.TheVariants as refused
use Rattle.strc_stage_core.specs.Events.{is_over}
use Rattle.strc_stage_core.specs.States.{IsStart}
use Rattle.strc_stage_steps.specs.Laws.{TellsOutcome}
use Rattle.strc_stage_steps.specs.Steps.{Gathered}
use Rattle.strc_stage_steps.specs.Pipes.{Beginning, PipeView, IsStateOf}
use Rattle.strc_stage_cut.specs.Launches.{start_of}
use Rattle.strc_stage_cut.specs.Startups as startup
use Rattle.strc_stage_cut.specs.declared.stage_ring.Launch.{Launch}
use Rattle.strc_stage_cut.specs.declared.stage_ring.Launch.TheVariants as launched
use Rattle.strc_stage.specs.Answers.{Answer, IsTold, stop_at}
use Rattle.strc_stage.specs.Naming.{IsRenamed}

-- Start-up of a plan goes to its end.
abbrev pub StartsUp : PlanParts → (input : List ℤ) → Type 0
StartsUp plan input =
    (circuit : CircuitView) × (started : MachineView) × startup.HasEnded plan input circuit started

-- Out of memory; or a thread was refused, which is started only after start-up.
abbrev pub LacksMeans : PlanParts → (input : List ℤ) → RunRefusal → Type 0
LacksMeans plan input refused.NoMemory = Unit {0}
LacksMeans plan input refused.NoWorker = StartsUp plan input
LacksMeans plan input _ = ⊥

-- So after what a launch came to.
abbrev pub LacksAfter : Launch → RunRefusal → Type 0
LacksAfter launch refused.NoMemory = Unit {0}
LacksAfter (launched.Going ring) refused.NoWorker = Unit {0}
LacksAfter (launched.Faulted node firing cause) refused.NoWorker = ⊥
LacksAfter launch _ = ⊥

-- An outcome is of whatever answer a collector tells of, by the nodes before fission.
pub record EndsSo (plan : PlanParts) (total : Gathered) (stop : Option Stop) (outcome : Outcome)
    : Type 0 where
  pub own : Outcome
  pub tells : (answer : Answer) → TellsOutcome (transformed_of plan).nodes total stop answer
      → IsTold (transformed_of plan).nodes answer own
  pub renamed : IsRenamed plan own outcome

-- From this start some events led to a state that is over, and an outcome is what the collector
-- tells of there.
abbrev pub HasEnded : PlanParts → Beginning → Outcome → Type 0
HasEnded plan start outcome =
    (core : PipeView) × IsStateOf start core × (is_over core ≡ true)
    × EndsSo plan core.collector.total core.collector.stop outcome

-- A ring that a launch gives is a start.
abbrev pub IsBegun : Launch → Type 0
IsBegun (launched.Going ring) = IsStart (start_of ring)
IsBegun (launched.Faulted node firing cause) = Unit {0}

-- An outcome is what comes of a launch.
abbrev pub IsEndOf : PlanParts → Launch → Outcome → Type 0
IsEndOf plan (launched.Going ring) outcome = HasEnded plan (start_of ring) outcome
IsEndOf plan (launched.Faulted node firing cause) outcome =
    IsTold (graph_of plan).nodes (StartupFault (stop_at node firing cause)) outcome
