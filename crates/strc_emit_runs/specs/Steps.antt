-- What a firing in C has to leave, for the program to be where the machine over queues is after it.
use Rattle.std.specs.Prelude.{◌≡◌, ℕ, ◌+◌, ◌<◌, ◌≤◌, ℤ, pos, List, ◌++◌, length, Option, Some}
use Rattle.std.specs.Prelude.{Ok}
use Rattle.std.specs.Prelude.{slice_get, slice_index_or}
use Rattle.strc_work_meaning.specs.declared.word.Word.{Word}
use Rattle.strc_work_meaning.specs.Filters.{Filter}
use Rattle.strc_elab_dataflow.specs.Flat as flat
use Rattle.strc_elab_dataflow.specs.Node.{ByPort, Fired.Fires}
use Rattle.strc_elab_dataflow.specs.Queues.{fifo_after}
use Rattle.strc_elab_graph.specs.declared.graph.Channel.{Channel}
use Rattle.strc_elab_graph.specs.Graphs.{NodeCode}
use Rattle.strc_elab_graph.specs.Graphs as graphs
use Rattle.strc_elab_graph.specs.Meaning.{node_meaning}
use Rattle.strc_elab_graph.specs.Rates.{pops_at}
use Rattle.strc_emit_c.specs.Meaning.{Field, Item}
use Rattle.strc_emit_moves.specs.declared.places.Phase.{Phase}
use Rattle.strc_emit_moves.specs.Places.{pops_of, pushes_of}
use Rattle.strc_emit_runs.specs.Places.{moved_next}
use Rattle.strc_emit_runs.specs.Running.{Program, Running, code_at}
use Rattle.strc_emit_runs.specs.Windows.{StandFrom}
use Rattle.strc_emit_runs.specs.Orders.{Queues, Goes, RunShows, items_end, reader_from, fired_on}

-- how many items a node's next firing takes and gives at a port, once it has fired so often in a
-- phase
abbrev pub pops_next : Program → Phase → (node times port : ℕ) → ℕ
pops_next program when node times port = moved_next when
    (pops_of program.network.nodes.now node 0 port) (pops_of program.network.nodes.now node 1 port)
    times

abbrev pub pushes_next : Program → Phase → (node times port : ℕ) → ℕ
pushes_next program when node times port = moved_next when
    (pushes_of program.network.nodes.now node 0 port)
    (pushes_of program.network.nodes.now node 1 port) times

-- a firing of a node gives these items after those that are in the channels that leave it, and
-- keeps those; it leaves these fields, and prints these words; a reader takes a number
pub record FiresTo (program : Program) (when : Phase) (node : ℕ) (fired : ℕ → ℕ) (state : List ℤ)
    (pushes : ByPort) (printed : List Word) (before after : Running) : Type 0 where
  pub round : after.round ≡ before.round
  pub gives : (number : ℕ) (channel : Channel)
      → slice_get program.network.channels.now number ≡ Some channel
      → channel.source.node ≡ node
      → StandFrom number (items_end program when number channel fired)
      (pushes channel.source.port)
      after.cells
  pub sizes : (number : ℕ) (channel : Channel)
      → slice_get program.network.channels.now number ≡ Some channel
      → channel.source.node ≡ node → length (pushes channel.source.port)
      ≡ pushes_next program when channel.source.node (fired node) channel.source.port
  pub kept : (number : ℕ) (channel : Channel) (place : ℕ)
      → slice_get program.network.channels.now number ≡ Some channel
      → place < items_end program when number channel fired
      → after.cells (Item number place) ≡ before.cells (Item number place)
  pub own : (slot : ℕ) → slot < length state
      → after.cells (Field node slot) ≡ slice_index_or state slot (pos 0)
  pub others : (other slot : ℕ) → (other ≡ node → ⊥)
      → after.cells (Field other slot) ≡ before.cells (Field other slot)
  pub count : (name : Option (List ℕ)) (filter : Filter)
      → code_at program node ≡ Some (graphs.Filter name filter)
      → length state ≡ (program.functions node).work.function.fields
  pub tape : after.tapes node ≡ before.tapes node ++ printed
  pub tapes : (other : ℕ) → (other ≡ node → ⊥) → after.tapes other ≡ before.tapes other
  pub reads : reader_from 0 program.network.nodes.now ≡ Some node
      → after.taken ≡ before.taken + 1
  pub reads_none : (other : ℕ) → reader_from 0 program.network.nodes.now ≡ Some other
      → (other ≡ node → ⊥) → after.taken ≡ before.taken

-- the channels bring what the graph says, and the node takes as many items of each as the program
-- says, which are there; the reader takes one number of the input
pub record TakesThere (graph : flat.Graph NodeCode) (program : Program) (when : Phase)
    (fired : ℕ → ℕ) (now : Queues) (node : ℕ) : Type 0 where
  pub origins : (number : ℕ) (channel : Channel)
      → slice_get program.network.channels.now number ≡ Some channel
      → (graph.source channel.target.node channel.target.port).origin
      ≡ flat.Port channel.source.node channel.source.port
  pub pops : (number : ℕ) (channel : Channel)
      → slice_get program.network.channels.now number ≡ Some channel
      → channel.target.node ≡ node
      → pops_at (graph.code node) (now.runs node).fired channel.target.port
      ≡ pops_next program when channel.target.node (fired node) channel.target.port
  pub enough : (number : ℕ) (channel : Channel)
      → slice_get program.network.channels.now number ≡ Some channel
      → channel.target.node ≡ node
      → pops_next program when channel.target.node (fired node) channel.target.port
      ≤ length (now.queues channel.target.node channel.target.port)
  pub input_origin : (reader : ℕ) → reader_from 0 program.network.nodes.now ≡ Some reader
      → (graph.source reader 0).origin ≡ flat.Input
  pub input_pops : reader_from 0 program.network.nodes.now ≡ Some node
      → pops_at (graph.code node) (now.runs node).fired 0 ≡ 1

-- then the program is where the machine over queues is after the firing
abbrev pub StepsShow : Type 0
StepsShow =
    (graph : flat.Graph NodeCode) (program : Program) (when : Phase) (round : ℕ) (fired : ℕ → ℕ)
    (now : Queues) (running after : Running) (node : ℕ) (state : List ℤ) (pushes : ByPort)
    (printed : List Word)
    → RunShows program when round fired now running → TakesThere graph program when fired now node
    → FiresTo program when node fired state pushes printed running after
    → Goes (RunShows program when round (fired_on fired node 1))
    (fifo_after node_meaning graph now node (Fires state pushes printed)) (Ok after)
