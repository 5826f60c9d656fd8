-- Live runs of plans come to the answers of their programs.
use Rattle.std.specs.Prelude.{◌≡◌, ℕ, suc, ◌+◌, ◌<◌, ◌^◌, ℤ, List, ◌++◌, length}
use Rattle.strc_elab_dataflow.specs.Answer.{Outcome.Done, Outcome.RoundFault}
use Rattle.strc_elab_dataflow.specs.Streams as trees
use Rattle.strc_work_meaning.specs.declared.fault.Cause.{Cause}
use Rattle.strc_work_meaning.specs.declared.word.Word.{Word}
use Rattle.strc_elab_graph.specs.FlatGraphs.{IsProgram}
use Rattle.strc_elab_graph.specs.Graphs.{NodeCode}
use Rattle.strc_sched_orders.specs.Order.{firing_count}
use Rattle.strc_sched_laws.specs.Laws.{round_order}
use Rattle.strc_sched_laws.specs.Machine.{CircuitView, MachineView, Stopped, order_run}
use Rattle.strc_stage_plan.specs.Plans.{PlanParts, graph_of}
use Rattle.strc_stage_steps.specs.Plans.{ComesToAnswer, Suffices}
use Rattle.strc_live_laws.specs.Live.{IsLive}
use Rattle.strc_live_laws.specs.Windows.{window, IsReader}
use Rattle.strc_live_plans.specs.Startups.{HasBegun}

-- What has been written is the answer of so many rounds, whatever items come next.
abbrev pub LiveRoundsAnswer : Type 0
LiveRoundsAnswer =
    (tree : trees.Stream NodeCode) (plan : PlanParts) (begin later more : List ℤ)
    (old circuit : CircuitView) (started : MachineView) (reader done : ℕ)
    (past : ℕ → List Word) (own : MachineView)
    → IsProgram tree (graph_of plan) → HasBegun plan begin old circuit started
    → IsLive circuit (round_order plan.split.schedule) reader started done (begin ++ later) past own
    → Suffices plan (begin ++ later) done
    → ComesToAnswer tree plan ((begin ++ later) ++ more) done (Done past)

-- A fault of the next round over just its items is that of the answer of all longer runs, whatever
-- items come next, with the words before it.
abbrev pub LiveFaultsAnswer : Type 0
LiveFaultsAnswer =
    (tree : trees.Stream NodeCode) (plan : PlanParts) (begin later items more : List ℤ)
    (old circuit : CircuitView) (started : MachineView) (reader done left : ℕ)
    (past : ℕ → List Word) (own : MachineView) (node firing : ℕ) (cause : Cause)
    → IsProgram tree (graph_of plan) → HasBegun plan begin old circuit started
    → IsReader circuit.codes reader
    → length (begin ++ later) + length items < 2 ^ 64
    → length items ≡ firing_count (round_order plan.split.schedule) reader
    → IsLive circuit (round_order plan.split.schedule) reader started done (begin ++ later) past own
    → order_run (window items circuit) (round_order plan.split.schedule) own
    ≡ Stopped node firing cause
    → Suffices plan ((begin ++ later) ++ (items ++ more)) (done + suc left)
    → ComesToAnswer tree plan ((begin ++ later) ++ (items ++ more)) (done + suc left)
    (RoundFault done (record { node = node; firing = firing; cause = cause }) past)
