-- A flat graph by sources, as a graph of nodes and channels.
use Rattle.std.specs.Prelude.{◌≡◌, ℕ, true, List, All, Some, slice_get}
use Rattle.strc_elab_dataflow.specs.Flat as flat
use Rattle.strc_elab_graph.specs.Carriers.{takes_at, JoinsCarriers}
use Rattle.strc_elab_graph.specs.FlatGraphs.{IsFed}
use Rattle.strc_elab_graph.specs.Graphs.{NodeCode, FileReader, Channel, Graph}

-- the nodes of a flat graph are these, and what comes to them comes by the channels
pub record IsByChannels (running : flat.Graph NodeCode) (graph : Graph) : Type 0 where
  pub codes : (node : ℕ) (code : NodeCode) → slice_get graph.nodes node ≡ Some code
      → running.code node ≡ code
  -- what a channel brings comes from where it begins
  pub origins : (number : ℕ) (channel : Channel) → slice_get graph.channels number ≡ Some channel
      → (running.source channel.target.node channel.target.port).origin
      ≡ flat.Port channel.source.node channel.source.port
  -- readers have the program's input
  pub inputs : (node : ℕ) (text : List ℕ) → slice_get graph.nodes node ≡ Some (FileReader text)
      → (running.source node 0).origin ≡ flat.Input
  -- channels join ports that carry items, and one ends at each input port that does
  pub joined : All (JoinsCarriers graph.nodes) graph.channels
  pub fed : (node port : ℕ) → takes_at graph.nodes node port ≡ true → IsFed graph node port
  -- no two begin at one port, and none ends at the node where it begins
  pub one_source : (first second : ℕ) (a b : Channel) → slice_get graph.channels first ≡ Some a
      → slice_get graph.channels second ≡ Some b → a.source ≡ b.source → first ≡ second
  pub apart : (number : ℕ) (channel : Channel) → slice_get graph.channels number ≡ Some channel
      → channel.source.node ≡ channel.target.node → ⊥
