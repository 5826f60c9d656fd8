-- What start-up of a plan comes to.
use Rattle.std.specs.Prelude.{◌≡◌, ℤ, ℕ, List, length}
use Rattle.strc_work_meaning.specs.declared.fault.Cause.{Cause}
use Rattle.strc_sched_laws.specs.Circuits.{IsCircuit, IsFirst}
use Rattle.strc_sched_laws.specs.Laws.{startup_order}
use Rattle.strc_sched_laws.specs.Machine.{CircuitView, MachineView, Stopped, Went, order_run}
use Rattle.strc_sched_rings.specs.Circuits.{circuit_view, IsReady}
use Rattle.strc_sched_rings.specs.declared.circuit.Circuit.{Circuit}
use Rattle.strc_stage_steps.specs.Dealt.{HaveRoom, IsDealt}
use Rattle.strc_sched_machine.specs.Running.{IsMachine, machine_view}
use Rattle.strc_sched_machine.specs.declared.machine.Machine.{Machine}
use Rattle.strc_sched_outcome.specs.declared.stop.Stop.{Stop}
use Rattle.strc_sched_outcome.specs.declared.stop.Stop.TheVariants as stops
use Rattle.strc_stage_plan.specs.Plans.{PlanParts, graph_of, transformed_of}
use Rattle.strc_stage_steps.specs.Plans.{HasStarted, IsReadyFor}
use Rattle.strc_stage_cut.specs.declared.startup.Startup.{Startup}
use Rattle.strc_stage_cut.specs.declared.startup.Startup.TheVariants as startup

-- Start-up went to its end over some circuit of the graph before fission.
pub record HasEnded (plan : PlanParts) (input : List ℤ) (circuit : CircuitView)
    (started : MachineView) : Type 0 where
  pub old : CircuitView
  pub ready : IsReadyFor plan input old
  pub startup : HasStarted plan input old circuit started

-- A firing of start-up faulted.
pub record HasFaulted (plan : PlanParts) (input : List ℤ) (node firing : ℕ) (cause : Cause) : Type 0
  where
    pub old : CircuitView
    pub first : MachineView
    pub ready : IsReadyFor plan input old
    pub is_first : IsFirst (graph_of plan) plan.schedule.sizes first
    pub stopped : order_run old (startup_order plan.schedule) first ≡ Stopped node firing cause

-- A circuit and a machine by which the graph after fission can be run.
pub record CanRun (plan : PlanParts) (circuit : Circuit) (machine : Machine) : Type 0 where
  pub ready : IsReady circuit
  pub machine_is : IsMachine (circuit_view circuit) machine
  pub rings : length (machine_view machine).rings ≡ length (transformed_of plan).channels

abbrev pub IsStartup : PlanParts → (input : List ℤ) → Startup → Type 0
IsStartup plan input (startup.Ended circuit machine) =
    HasEnded plan input (circuit_view circuit) (machine_view machine)
    × CanRun plan circuit machine
IsStartup plan input (startup.Faulted node firing cause) = HasFaulted plan input node firing cause

-- The machine of the graph after fission, over rings of these sizes, has what the one before it had,
-- where there is room.
abbrev pub HasDealt : PlanParts → (sizes : List ℕ) → (old : CircuitView)
    → (before after : MachineView) → Type 0
HasDealt plan sizes old before after =
    HaveRoom old (transformed_of plan) plan.split.origins sizes before
    → IsDealt old (transformed_of plan) plan.split.origins sizes before after

-- Such a machine to which this one is dealt out.
pub record IsDealtTo (plan : PlanParts) (sizes : List ℕ) (old : CircuitView)
    (before : MachineView) (input : List ℤ) (circuit : Circuit) (machine : Machine) : Type 0 where
  pub circuit_is : IsCircuit (transformed_of plan) (circuit_view circuit)
  pub input_is : (circuit_view circuit).input ≡ input
  pub can_run : CanRun plan circuit machine
  pub dealt : HasDealt plan sizes old before (machine_view machine)

abbrev pub IsDealtOf : PlanParts → (sizes : List ℕ) → (old : CircuitView)
    → (before : MachineView) → (input : List ℤ) → Startup → Type 0
IsDealtOf plan sizes old before input (startup.Ended circuit machine) =
    IsDealtTo plan sizes old before input circuit machine
IsDealtOf plan sizes old before input (startup.Faulted node firing cause) = ⊥

-- Start-up went to its end, and what it left is dealt out to a machine with rings of these sizes.
pub record HasLeft (plan : PlanParts) (sizes : List ℕ) (input : List ℤ) (circuit : Circuit)
    (machine : Machine) : Type 0 where
  pub old : CircuitView
  pub ready : IsReadyFor plan input old
  pub first : MachineView
  pub is_first : IsFirst (graph_of plan) plan.schedule.sizes first
  pub left : MachineView
  pub went : order_run old (startup_order plan.schedule) first ≡ Went left
  pub dealt : IsDealtTo plan sizes old left input circuit machine

-- Over rings of these sizes; start-up itself is that over the plan's own.
abbrev pub IsStartupIn : PlanParts → (sizes : List ℕ) → (input : List ℤ) → Startup → Type 0
IsStartupIn plan sizes input (startup.Ended circuit machine) =
    HasLeft plan sizes input circuit machine
IsStartupIn plan sizes input (startup.Faulted node firing cause) =
    HasFaulted plan input node firing cause

-- A stop of a machine, as start-up tells it; out of memory it tells nothing.
abbrev pub IsFaultOf : Stop → Startup → Type 0
IsFaultOf (stops.Fault node firing cause) result = result ≡ startup.Faulted node firing cause
IsFaultOf stops.NoMemory result = ⊥
