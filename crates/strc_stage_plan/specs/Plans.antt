-- Plans: a flat graph, how often its nodes fire, and the schedule of these firings (Lee and
-- Messerschmitt 1987: a periodic admissible sequential schedule).
use Rattle.std.specs.Prelude.{◌≡◌, ℕ, ◌<◌, ◌≤◌, Bool, true, false, List, length, All}
use Rattle.strc_elab_graph.specs.Connections.{IsConnected}
use Rattle.strc_elab_graph.specs.FlatGraphs.{IsProgram}
use Rattle.strc_elab_graph.specs.Graphs.{Graph}
use Rattle.strc_elab_graph.specs.NodeView.{GraphParts, graph_view}
use Rattle.strc_elab_stream.specs.Flattening.{outer_loops, tree_of}
use Rattle.strc_elab_stream.specs.Instances.{Stream}
use Rattle.strc_elab_stream.specs.Types.{IsClosed}
use Rattle.strc_balance.specs.Balance.{count_at, IsWithinLimit}
use Rattle.strc_balance.specs.Balance as balance
use Rattle.strc_balance.specs.Rates.{equations_of, size_of}
use Rattle.strc_startup.specs.Rates.{first_counts, rates_of}
use Rattle.strc_startup.specs.Startup.{IsPrimed}
use Rattle.strc_startup.specs.Startup as start
use Rattle.strc_sched_orders.specs.Buffers.{size_limit}
use Rattle.strc_sched_orders.specs.Firings.{none_fired}
use Rattle.strc_sched_orders.specs.Order.{HasOrder}
use Rattle.strc_sched_orders.specs.Schedules.{ScheduleParts, IsSchedule, PassesLimit}
use Rattle.strc_sched_laws.specs.Planned.{IsPlanned}
use Rattle.strc_fuse.specs.Fusion.{FusedPass}
use Rattle.strc_fiss.specs.Fissions.{IsFission, IsTransformed, SplitPasses}
use Rattle.strc_fiss.specs.Numbers.{node_limit, base}
use Rattle.strc_fiss.specs.Splits.{SplitParts}
use Rattle.strc_fiss.specs.Ways.{fission_of}

-- what a plan keeps
pub record PlanParts : Type 0 where
  pub graph : GraphParts
  pub startup_counts : List ℕ
  pub round_counts : List ℕ
  pub schedule : ScheduleParts
  pub split : SplitParts

abbrev pub parts_of : GraphParts → (startup round : List ℕ) → ScheduleParts → SplitParts → PlanParts
parts_of graph startup round schedule split = record {
  graph = graph;
  startup_counts = startup;
  round_counts = round;
  schedule = schedule;
  split = split;
}

-- the flat graph before fission, and the one after it, without where their nodes lie in memory
abbrev pub graph_of : PlanParts → Graph
graph_of plan = graph_view plan.graph

abbrev pub transformed_of : PlanParts → Graph
transformed_of plan = graph_view plan.split.graph

-- the counts of a round: the least ones that balance the graph, within the limit
pub record HasRound (graph : Graph) (counts : List ℕ) : Type 0 where
  pub least : balance.IsLeast (size_of graph) (equations_of graph) counts
  pub within : IsWithinLimit counts

-- the counts of start-up: the least ones that prime the graph, within the limit
pub record HasStartup (graph : Graph) (counts : List ℕ) : Type 0 where
  pub least : start.IsLeast (first_counts graph) (rates_of graph) counts
  pub within : IsWithinLimit counts

-- the schedule of these firings: greedy orders of them, and the sizes of the buffers that they
-- need, within the limit
pub record HasSchedule (graph : Graph) (startup round : List ℕ) (schedule : ScheduleParts) : Type 0
  where
    pub is : IsSchedule (rates_of graph) (count_at startup) (count_at round) schedule
    pub within : All (λ size. size ≤ size_limit) schedule.sizes

-- a graph is the flat graph of a whole program: of a stream that takes and gives nothing, with the
-- outermost loop of each node
pub record IsWhole (graph : Graph) : Type 0 where
  pub stream : Stream
  pub closed : IsClosed stream
  pub program : IsProgram (tree_of stream) graph
  pub connected : IsConnected graph
  pub loops : graph.outer_loops ≡ outer_loops 0 stream

-- a graph and its schedule are what fission makes of others whose nodes fire so often in a round,
-- with at most so many copies of a node, and then fusion, with lists of at most so many entries
pub record IsTransformation (graph : Graph) (round : List ℕ) (schedule : ScheduleParts)
    (split : SplitParts) : Type 0 where
  pub ways : ℕ
  pub threshold : ℕ
  pub transformed : IsTransformed (fission_of graph round ways) graph schedule threshold split

-- a plan: its graph is a whole program's, its schedule is that of its least counts, and can be run,
-- and fission and fusion make of both what is run
pub record IsPlan (plan : PlanParts) : Type 0 where
  pub whole : IsWhole (graph_of plan)
  pub startup : HasStartup (graph_of plan) plan.startup_counts
  pub round : HasRound (graph_of plan) plan.round_counts
  pub schedule : HasSchedule (graph_of plan) plan.startup_counts plan.round_counts plan.schedule
  pub planned : IsPlanned (graph_of plan) plan.schedule
  pub transformation : IsTransformation (graph_of plan) plan.round_counts plan.schedule plan.split
  pub startup_is : planned.startup ≡ plan.startup_counts
  pub round_is : planned.round ≡ plan.round_counts

-- no counts within the limit prime a graph
abbrev pub IsUnbounded : Graph → Type 0
IsUnbounded graph = (counts : List ℕ) → IsPrimed (first_counts graph) (rates_of graph) counts
    → ¬ IsWithinLimit counts

-- the firings before the first round have no order; or they have one, and those of a round don't
abbrev pub IsDeadlocked : Graph → (startup round : List ℕ) → (in_startup : Bool) → Type 0
IsDeadlocked graph startup round true =
    ¬ HasOrder (rates_of graph) none_fired (count_at startup)
IsDeadlocked graph startup round false =
    HasOrder (rates_of graph) none_fired (count_at startup)
    × (¬ HasOrder (rates_of graph) (count_at startup) (count_at round))

-- the buffer of a channel would be larger than the limit, and none of a lower one
abbrev pub Overflows : Graph → (startup round : List ℕ) → (channel : ℕ) → Type 0
Overflows graph startup round channel =
    PassesLimit (rates_of graph) (count_at startup) (count_at round) channel

-- the nodes would be too many after fission, with at most so many copies of each
abbrev pub HasTooManyParts : Graph → (round : List ℕ) → (ways : ℕ) → Type 0
HasTooManyParts graph round ways =
    node_limit < base (fission_of graph round ways) (length graph.nodes)

-- the buffer of a channel would be larger than the limit after fission of a schedule, and none of a
-- lower one
abbrev pub OverflowsSplit : Graph → (round : List ℕ) → ScheduleParts → (ways channel : ℕ) → Type 0
OverflowsSplit graph round schedule ways channel =
    SplitPasses (fission_of graph round ways) graph schedule channel

-- or after fusion of what fission makes of it
pub record OverflowsFused (graph : Graph) (round : List ℕ) (schedule : ScheduleParts)
    (ways threshold channel : ℕ) : Type 0 where
  pub split : SplitParts
  pub fission : IsFission (fission_of graph round ways) graph schedule split
  pub passes : FusedPass (graph_view split.graph) threshold split.schedule channel
