-- Programs of planned graphs.
use Rattle.std.specs.Prelude.{◌≡◌, ℕ, ◌<◌, ◌^◌, true, List, Some, Ok, slice_get}
use Rattle.strc_work_meaning.specs.Filters.{Filter, filter_of}
use Rattle.strc_work_meaning.specs.Firing.{started, turn_limit}
use Rattle.strc_elab_dataflow.specs.Streams as trees
use Rattle.strc_elab_graph.specs.declared.graph.Node.TheVariants as nodes
use Rattle.strc_elab_graph.specs.declared.instance.Instance.{Instance}
use Rattle.strc_elab_graph.specs.Carriers.{gives_at}
use Rattle.strc_elab_graph.specs.FlatGraphs.{IsProgram}
use Rattle.strc_elab_graph.specs.Graphs.{NodeCode, Channel, Graph, ports_of}
use Rattle.strc_elab_graph.specs.NodeView.{GraphParts, graph_view}
use Rattle.strc_elab_graph.specs.Rates.{filter_window, filter_pushes}
use Rattle.strc_balance.specs.Balance.{count_at}
use Rattle.strc_startup.specs.Rates.{rates_of}
use Rattle.strc_sched_orders.specs.Schedules.{ScheduleParts, IsSchedule}
use Rattle.strc_sched_laws.specs.Planned.{IsFilterOf, IsPlanned, AreKnown}
use Rattle.strc_emit_moves.specs.declared.places.Phase.{Phase}
use Rattle.strc_emit_moves.specs.Rooms.{total_room}
use Rattle.strc_emit_runs.specs.Running.{Program}
use Rattle.strc_emit_runs.specs.Rounds.{AreRound, AreStartup}
use Rattle.strc_emit_runs.specs.Works.{HasFilter}
use Rattle.strc_emit_network.specs.Programs as network
use Rattle.strc_emit_plans.specs.Calls.{calls_made}
use Rattle.strc_emit.specs.Networks.{IsNetworkOf}

-- a filter looks at items, and gives some, only on sides that have items
pub record KeepsSides (filter : Filter) : Type 0 where
  pub takes : (firing : ℕ) → ports_of filter.input ≡ 0 → filter_window filter firing ≡ 0
  pub gives : (firing : ℕ) → ports_of filter.output ≡ 0 → filter_pushes filter firing ≡ 0

-- a channel begins at an output port
abbrev pub IsDrained : Graph → (node port : ℕ) → Type 0
IsDrained graph node port = (number : ℕ) × (channel : Channel)
    × (slice_get graph.channels number ≡ Some channel)
    × (channel.source ≡ record { node = node; port = port })

-- all that nodes give goes somewhere: filters keep their sides, and a channel begins at each output
-- port that carries items
pub record GoesSomewhere (graph : Graph) : Type 0 where
  pub sides : (filter : Filter) → IsFilterOf graph filter → KeepsSides filter
  pub drained : (node port : ℕ) → gives_at graph.nodes node port ≡ true
      → IsDrained graph node port

-- the functions of each filter's node are those that its text spells, with the values that its
-- fields have after its start
abbrev pub AreFunctionsOf : Program → Type 0
AreFunctionsOf program =
    (number : ℕ) (instance : Instance)
    → slice_get program.network.nodes.now number ≡ Some (nodes.Filter instance)
    → (has : HasFilter program number instance.code)
    × (started (filter_of instance.code) ≡ Ok has.values)

-- a program is that of a graph with its counts and its schedule; its arrays have room for fewer
-- items than an int counts, and its loops may turn as often as the limit says
pub record IsProgramFor (graph : GraphParts) (startup round : List ℕ) (schedule : ScheduleParts)
    (program : Program) : Type 0 where
  pub is : IsNetworkOf graph startup round schedule program.network
  pub functions : AreFunctionsOf program
  pub small : total_room program.network < 2 ^ 31
  pub fuel : turn_limit < program.fuel

-- a graph of a tree with its greedy schedule, and its program
pub record IsPlannedProgram (tree : trees.Stream NodeCode) (graph : GraphParts)
    (schedule : ScheduleParts) (program : Program) : Type 0 where
  pub whole : IsProgram tree (graph_view graph)
  pub planned : IsPlanned (graph_view graph) schedule
  pub known : AreKnown (graph_view graph)
  pub somewhere : GoesSomewhere (graph_view graph)
  pub greedy : IsSchedule (rates_of (graph_view graph)) (count_at planned.startup)
      (count_at planned.round) schedule
  pub is : IsProgramFor graph planned.startup planned.round schedule program

-- the program of a planned graph: in start-up and in rounds its nodes do what the graph's do, its
-- channels are the graph's, and firings have their places
abbrev pub PlansMakePrograms : Type 0
PlansMakePrograms =
    (tree : trees.Stream NodeCode) (graph : GraphParts) (schedule : ScheduleParts)
    (program : Program) (when : Phase) → IsPlannedProgram tree graph schedule program
    → network.IsProgramOf (trees.flat tree) program when

-- the calls that are made of its orders are those of its phases: what leaves its channels was there
-- or came, and the arrays have room
abbrev pub PlansMakeRounds : Type 0
PlansMakeRounds =
    (tree : trees.Stream NodeCode) (graph : GraphParts) (schedule : ScheduleParts)
    (program : Program) → IsPlannedProgram tree graph schedule program
    → AreRound program (calls_made program schedule.round)

abbrev pub PlansMakeStartups : Type 0
PlansMakeStartups =
    (tree : trees.Stream NodeCode) (graph : GraphParts) (schedule : ScheduleParts)
    (program : Program) → IsPlannedProgram tree graph schedule program
    → AreStartup program (calls_made program schedule.startup)
