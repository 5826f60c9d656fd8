-- What start-up of a plan comes to.
use Rattle.std.specs.Prelude.{◌≡◌, ℕ, suc, ℤ, List}
use Rattle.strc_sched_laws.specs.Machine.{CircuitView, MachineView}
use Rattle.strc_stage_core.specs.Seeing as seeing
use Rattle.strc_stage_core.specs.States.{Start as CoreStart}
use Rattle.strc_stage_core.specs.declared.ring.Start.{Start}
use Rattle.strc_stage_plan.specs.Bounds.{stage_bounds, stage_count}
use Rattle.strc_sched_orders.specs.declared.unit as units
use Rattle.strc_fuse.specs.Units.{round_units}
use Rattle.strc_sched_outcome.specs.declared.stop.Stop.{Stop}
use Rattle.strc_stage_core.specs.Parcels.{Load}
use Rattle.strc_stage_plan.specs.Plans.{PlanParts, transformed_of}
use Rattle.strc_stage_steps.specs.Beginnings.{IsBeginning}
use Rattle.strc_stage_steps.specs.Plans.{IsCut}
use Rattle.strc_stage_steps.specs.Steps.{StageState, Gathered}
use Rattle.strc_stage_steps.specs.Collectors.{sees}
use Rattle.strc_stage_steps.specs.Stages.{see}
use Rattle.strc_stage_cut.specs.Bounds.{bound_in, last_of}
use Rattle.strc_stage_cut.specs.Fired.{running_by}
use Rattle.strc_stage_cut.specs.Made.{AreMade}
use Rattle.strc_stage_cut.specs.Startups.{HasEnded, HasFaulted}
use Rattle.strc_stage_cut.specs.declared.stage_ring.Launch.{Launch}
use Rattle.strc_stage_cut.specs.declared.stage_ring.Launch.TheVariants as launched
use Rattle.strc_stage_steps.specs.declared.collector.CollectorParts.{CollectorParts}
use Rattle.strc_stage_steps.specs.declared.stage.StageParts.{StageParts}

-- What the ring of a plan's stages begins with, and how the definitions see it.
abbrev pub Ring : Type 0
Ring = Start StageParts CollectorParts

abbrev pub start_of : Ring → CoreStart StageState Load Stop Gathered
start_of ring = seeing.start_of see sees ring

-- The bounds of the stages that so many workers share.
abbrev pub bounds_of : PlanParts → (workers : ℕ) → List ℕ
bounds_of plan workers =
    stage_bounds (transformed_of plan).outer_loops (round_units plan.split.schedule.round) workers

-- A ring of the stages of a plan that have these bounds, before any event, with what a machine
-- has; in a step they fire these units.
pub record IsRingOf (plan : PlanParts) (fired : List units.Unit.Unit) (bounds : List ℕ)
    (circuit : CircuitView) (started : MachineView) (rounds : ℕ) (ring : Ring) : Type 0 where
  pub cut : IsCut plan (bound_in bounds) (suc (last_of bounds))
  pub beginning : IsBeginning (running_by plan fired) (bound_in bounds) (last_of bounds) circuit
      started rounds (start_of ring)
  pub made : AreMade (running_by plan fired) bounds circuit started rounds ring.stages.items

-- Start-up went on to its end, and the ring begins with what it left: it has a stage for each
-- worker, or for each group of nodes where these are fewer, and these fire a round's units in a
-- step.
pub record HasBegun (plan : PlanParts) (input : List ℤ) (rounds workers : ℕ) (ring : Ring) : Type 0
  where
    pub circuit : CircuitView
    pub started : MachineView
    pub startup : HasEnded plan input circuit started
    pub count : suc (last_of (bounds_of plan workers))
        ≡ stage_count (transformed_of plan).outer_loops (round_units plan.split.schedule.round)
        workers
    pub ring_is : IsRingOf plan plan.split.schedule.round (bounds_of plan workers) circuit started
        rounds ring

abbrev pub IsLaunch : PlanParts → (input : List ℤ) → (rounds workers : ℕ) → Launch → Type 0
IsLaunch plan input rounds workers (launched.Going ring) = HasBegun plan input rounds workers ring
IsLaunch plan input rounds workers (launched.Faulted node firing cause) =
    HasFaulted plan input node firing cause
