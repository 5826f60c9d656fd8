-- A program that is that of a graph: what each node does, and where its items stand.
use Rattle.std.specs.Prelude.{◌≡◌, ◌⊎◌, ℕ, ◌<◌, ◌≤◌, ◌^◌, List, Some, None}
use Rattle.std.specs.Prelude.{slice_get, slice_index}
use Rattle.strc_parse_tree.specs.declared.tree.FilterTree.{FilterTree}
use Rattle.strc_work_meaning.specs.Filters.{filter_of}
use Rattle.strc_work_meaning.specs.Firing.{turn_limit}
use Rattle.strc_elab_dataflow.specs.Flat as flat
use Rattle.strc_elab_graph.specs.declared.graph.Channel.{Channel}
use Rattle.strc_elab_graph.specs.Graphs.{NodeCode, ports_of}
use Rattle.strc_elab_graph.specs.Graphs as graphs
use Rattle.strc_elab_graph.specs.Meaning.{ports_in}
use Rattle.strc_elab_graph.specs.Rates.{filter_window, filter_pushes}
use Rattle.strc_emit_moves.specs.declared.places.Phase.{Phase}
use Rattle.strc_emit_moves.specs.declared.places.Phase.TheVariants as phase
use Rattle.strc_emit_moves.specs.Places.{taken_at, given_at, pops_of}
use Rattle.strc_emit_passes.specs.Passing.{IsPassing, HasInputs}
use Rattle.strc_sched_laws.specs.Nodes.{FilterPushes}
use Rattle.strc_emit_runs.specs.Running.{Program, code_at}
use Rattle.strc_emit_runs.specs.Works.{HasFilter}
use Rattle.strc_emit_runs.specs.Orders.{AreWithin, reader_from}
use Rattle.strc_emit_runs.specs.PassingSteps.{IsWired}
use Rattle.strc_emit_network.specs.Later.{HasNoPrework}

-- how often each node fires in a phase
abbrev pub count_in : Program → Phase → (node : ℕ) → ℕ
count_in program phase.Startup = slice_index program.network.startup.now
count_in program phase.Round = slice_index program.network.round.now

-- a filter has its functions and its rates; its bodies look at items, and give some, only where
-- there is a port with a channel; and its prework, where it has one, is done in start-up
pub record IsFilterIn (program : Program) (when : Phase) (node : ℕ) (tree : FilterTree) : Type 0
  where
    pub has : HasFilter program node tree
    pub pushes : FilterPushes (filter_of tree)
    pub started : HasNoPrework (filter_of tree)
        ⊎ (1 ≤ slice_index program.network.startup.now node)
    pub no_port : (firing : ℕ) → ports_of tree.input ≡ 0 → filter_window (filter_of tree) firing ≡ 0
    pub taken_none : (firing : ℕ) → taken_at program.network when node 0 ≡ None
        → filter_window (filter_of tree) firing ≡ 0
    pub given_none : (firing : ℕ) → given_at program.network when node 0 ≡ None
        → filter_pushes (filter_of tree) firing ≡ 0
    pub few_read : (firing : ℕ) → filter_window (filter_of tree) firing < 2 ^ 31
    pub few_written : (firing : ℕ) → filter_pushes (filter_of tree) firing < 2 ^ 31

-- a node that only passes items on has a channel at each input port that carries items, and takes
-- few of them
pub record IsPassingIn (program : Program) (when : Phase) (node : ℕ) (code : NodeCode) : Type 0
  where
    pub is : IsPassing code
    pub inputs : HasInputs program.network when node code

abbrev pub IsNodeIn : Program → Phase → (node : ℕ) → NodeCode → Type 0
IsNodeIn program when node (graphs.Filter name filter) =
    (tree : FilterTree) × (filter ≡ filter_of tree) × IsFilterIn program when node tree
IsNodeIn program when node code = IsPassingIn program when node code

-- a first firing takes few items
abbrev pub TakesFew : Program → Phase → (node : ℕ) → Type 0
TakesFew program phase.Startup node =
    (port : ℕ) → pops_of program.network.nodes.now node 0 port < 2 ^ 31
TakesFew program phase.Round node = Unit {0}

-- a program is that of a graph in a phase: its nodes, its channels and what its reader takes are
-- the graph's, one node at most reads, and firings have their places
pub record IsProgramOf (graph : flat.Graph NodeCode) (program : Program) (when : Phase) : Type 0
  where
    pub codes : (node : ℕ) (code : NodeCode) → code_at program node ≡ Some code
        → graph.code node ≡ code
    pub nodes : (node : ℕ) (code : NodeCode) → code_at program node ≡ Some code
        → IsNodeIn program when node code
    pub wired : (node : ℕ) (times : ℕ → ℕ) → AreWithin (count_in program when) times
        → times node < count_in program when node → IsWired program when node times
    pub few : (node : ℕ) → 0 < count_in program when node → TakesFew program when node
    pub origins : (number : ℕ) (channel : Channel)
        → slice_get program.network.channels.now number ≡ Some channel
        → (graph.source channel.target.node channel.target.port).origin
        ≡ flat.Port channel.source.node channel.source.port
    pub targets : (number : ℕ) (channel : Channel)
        → slice_get program.network.channels.now number ≡ Some channel
        → channel.target.port < ports_in (graph.code channel.target.node)
    pub input_origin : (reader : ℕ) → reader_from 0 program.network.nodes.now ≡ Some reader
        → (graph.source reader 0).origin ≡ flat.Input
    pub one_reader : (node : ℕ) (text : List ℕ)
        → code_at program node ≡ Some (graphs.FileReader text)
        → reader_from 0 program.network.nodes.now ≡ Some node
    pub fuel : turn_limit < program.fuel
