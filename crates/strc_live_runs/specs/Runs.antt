-- Live runs in code.
use Rattle.std.specs.Prelude.{◌≡◌, ℕ, suc, ◌+◌, ℤ, List, ◌++◌}
use Rattle.strc_elab_dataflow.specs.Answer.{Outcome.RoundFault}
use Rattle.strc_elab_dataflow.specs.Streams as trees
use Rattle.strc_work_meaning.specs.declared.word.Word.{Word}
use Rattle.strc_elab_graph.specs.FlatGraphs.{IsProgram}
use Rattle.strc_elab_graph.specs.Graphs.{NodeCode}
use Rattle.strc_sched_orders.specs.Greedy.{firings_of}
use Rattle.strc_sched_laws.specs.Laws.{round_order}
use Rattle.strc_sched_laws.specs.Machine.{CircuitView, MachineView}
use Rattle.strc_sched_rings.specs.Circuits.{circuit_view}
use Rattle.strc_sched_machine.specs.Batches.{IsOrderOf, units_of}
use Rattle.strc_sched_machine.specs.Running.{IsMachine, machine_view}
use Rattle.strc_sched_outcome.specs.declared.stop.Stop.{Stop}
use Rattle.strc_sched_outcome.specs.declared.stop.Stop.TheVariants as stop
use Rattle.strc_stage_plan.specs.Plans.{PlanParts, graph_of}
use Rattle.strc_stage_steps.specs.Plans.{ComesToAnswer, Suffices}
use Rattle.strc_live_laws.specs.Windows.{window}
use Rattle.strc_live_plans.specs.Runs.{HasGoneOn}
use Rattle.strc_live_runs.specs.declared.live_run.LiveRun.{LiveRun}

-- its machine and its order are for its circuit
pub record IsWired (run : LiveRun) : Type 0 where
  pub machine : IsMachine (circuit_view run.circuit) run.machine
  pub order : IsOrderOf (circuit_view run.circuit) run.order

-- it has the same order, reader and tape, and has done as many rounds
pub record HasSamePlace (before after : LiveRun) : Type 0 where
  pub order : after.order ≡ before.order
  pub reader : after.reader ≡ before.reader
  pub tape : after.tape ≡ before.tape
  pub done : after.done ≡ before.done

-- it is a plan's that has read these items, start-up's first, and of which these words of each node
-- are written
pub record IsLiveRun (plan : PlanParts) (read : List ℤ) (past : ℕ → List Word) (run : LiveRun)
    : Type 0 where
  pub begin : List ℤ
  pub later : List ℤ
  pub is_read : read ≡ begin ++ later
  pub old : CircuitView
  pub circuit : CircuitView
  pub started : MachineView
  pub gone : HasGoneOn plan begin later old circuit started run.reader run.done past
      (machine_view run.machine)
  pub input : List ℤ
  pub circuit_is : circuit_view run.circuit ≡ window input circuit
  pub firings : firings_of (units_of run.order) ≡ round_order plan.split.schedule

-- a round over these items gave these words
pub record HasDoneRound (plan : PlanParts) (read items : List ℤ) (past : ℕ → List Word)
    (words : List Word) (run : LiveRun) : Type 0 where
  pub now : ℕ → List Word
  pub more : now run.tape ≡ past run.tape ++ words
  pub is : IsLiveRun plan (read ++ items) now run

-- a fault of a round over these items is that of each longer run, whatever items come next
abbrev pub IsRoundStop : PlanParts → (read items : List ℤ) → (past : ℕ → List Word)
    → (done : ℕ) → Stop → Type 0
IsRoundStop plan read items past done (stop.Fault node firing cause) =
    (tree : trees.Stream NodeCode) (more : List ℤ) (left : ℕ) → IsProgram tree (graph_of plan)
    → Suffices plan (read ++ (items ++ more)) (done + suc left)
    → ComesToAnswer tree plan (read ++ (items ++ more)) (done + suc left)
    (RoundFault done (record { node = node; firing = firing; cause = cause }) past)
IsRoundStop plan read items past done stop.NoMemory = Unit {0}
