-- How often the reader of a plan's graph after fission fires.
use Rattle.std.specs.Prelude.{◌≡◌, ℕ, ◌+◌, ◌*◌, ◌<◌, ◌^◌, ℤ, List, length, slice_index}
use Rattle.strc_elab_dataflow.specs.Streams as trees
use Rattle.strc_elab_graph.specs.FlatGraphs.{IsProgram}
use Rattle.strc_elab_graph.specs.Graphs.{NodeCode}
use Rattle.strc_sched_orders.specs.Order.{firing_count}
use Rattle.strc_sched_laws.specs.Laws.{round_order}
use Rattle.strc_sched_laws.specs.Machine.{CircuitView, MachineView}
use Rattle.strc_sched_laws.specs.Planned.{items_read}
use Rattle.strc_stage_plan.specs.Plans.{PlanParts, graph_of}
use Rattle.strc_stage_steps.specs.Plans.{need_of}
use Rattle.strc_live_laws.specs.Windows.{IsReader}
use Rattle.strc_live_plans.specs.Startups.{HasBegun}

-- how many items of the program's input each round reads
abbrev pub each_of : PlanParts → ℕ
each_of plan = items_read (graph_of plan).nodes (firing_count (round_order plan.schedule))

-- A node is the one reader of the graph after fission: after start-up it has fired once for each
-- item that start-up read, and it fires in a round once for each item that a round reads, of which
-- there is one at least; so many rounds read what start-up reads, and as often what each reads,
-- within 64 bits.
pub record IsPlanReader (plan : PlanParts) (circuit : CircuitView) (started : MachineView)
    (reader : ℕ) : Type 0 where
  pub is : IsReader circuit.codes reader
  pub there : reader < length started.fired
  pub begun : slice_index started.fired reader ≡ need_of plan 0
  pub each : firing_count (round_order plan.split.schedule) reader ≡ each_of plan
  pub some : 0 < each_of plan
  pub need : (rounds : ℕ) → need_of plan rounds ≡ need_of plan 0 + rounds * each_of plan
  pub within : (rounds : ℕ) → rounds < 2 ^ 32 → need_of plan rounds < 2 ^ 64

-- After start-up over just the items that it reads there is such a node.
abbrev pub PlansReadSo : Type 0
PlansReadSo =
    (tree : trees.Stream NodeCode) (plan : PlanParts) (begin : List ℤ)
    (old circuit : CircuitView) (started : MachineView)
    → IsProgram tree (graph_of plan) → HasBegun plan begin old circuit started
    → (reader : ℕ) × IsPlanReader plan circuit started reader
