-- Start-up over just the items that it reads.
use Rattle.std.specs.Prelude.{◌≡◌, ℕ, ℤ, List, ◌++◌, length, Some, slice_get}
use Rattle.strc_elab_dataflow.specs.Answer.{Outcome.StartupFault}
use Rattle.strc_elab_dataflow.specs.Streams as trees
use Rattle.strc_work_meaning.specs.declared.fault.Cause.{Cause}
use Rattle.strc_elab_graph.specs.FlatGraphs.{IsProgram}
use Rattle.strc_elab_graph.specs.Graphs.{NodeCode, FileReader}
use Rattle.strc_sched_laws.specs.Circuits.{IsFirst}
use Rattle.strc_sched_laws.specs.Laws.{startup_order}
use Rattle.strc_sched_laws.specs.Machine.{CircuitView, MachineView, Stopped, order_run}
use Rattle.strc_stage_plan.specs.Plans.{PlanParts, graph_of}
use Rattle.strc_stage_steps.specs.Plans.{HasStarted, IsPlanAnswer, IsReadyFor, Suffices, need_of}
use Rattle.strc_live_laws.specs.Windows.{window}

-- A plan that reads the program's input, and the circuit of its graph before fission with just the
-- items that start-up reads.
pub record CanBegin (plan : PlanParts) (begin : List ℤ) (old : CircuitView) : Type 0 where
  pub ready : IsReadyFor plan begin old
  pub node : ℕ
  pub text : List ℕ
  pub reads : slice_get (graph_of plan).nodes node ≡ Some (FileReader text)
  pub just : length begin ≡ need_of plan 0

-- Start-up went to its end over them.
pub record HasBegun (plan : PlanParts) (begin : List ℤ) (old circuit : CircuitView)
    (started : MachineView) : Type 0 where
  pub can : CanBegin plan begin old
  pub startup : HasStarted plan begin old circuit started

-- Over any longer input it goes to its end and leaves the same machine.
abbrev pub StartupsGoAlike : Type 0
StartupsGoAlike =
    (plan : PlanParts) (begin more : List ℤ) (old circuit : CircuitView) (started : MachineView)
    → HasBegun plan begin old circuit started
    → IsReadyFor plan (begin ++ more) (window (begin ++ more) old)
    × HasStarted plan (begin ++ more) (window (begin ++ more) old)
    (window (begin ++ more) circuit) started

-- A fault of start-up over them is the answer for any longer input.
abbrev pub StartupFaultsAnswer : Type 0
StartupFaultsAnswer =
    (tree : trees.Stream NodeCode) (plan : PlanParts) (begin more : List ℤ) (rounds : ℕ)
    (old : CircuitView) (first : MachineView) (node firing : ℕ) (cause : Cause)
    → IsProgram tree (graph_of plan) → CanBegin plan begin old
    → Suffices plan (begin ++ more) rounds
    → IsFirst (graph_of plan) plan.schedule.sizes first
    → order_run old (startup_order plan.schedule) first ≡ Stopped node firing cause
    → IsPlanAnswer tree plan (begin ++ more) rounds
    (StartupFault (record { node = node; firing = firing; cause = cause }))
