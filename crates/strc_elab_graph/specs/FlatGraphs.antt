-- Graphs of nodes and channels that are the flat graph of a stream's tree (StreamIt specification
-- 2.1, "Streams").
use Rattle.std.specs.Prelude.{◌≡◌, ℕ, ◌<◌, ◌≤◌, true, List, [], ◌⊎◌, All, AllPairs, Some, slice_get}
use Rattle.std.specs.Prelude.{count_by}
use Rattle.strc_elab_dataflow.specs.Flat.{Source}
use Rattle.strc_elab_dataflow.specs.Flat as flat
use Rattle.strc_elab_dataflow.specs.Streams as trees
use Rattle.strc_elab_graph.specs.Graphs.{NodeCode, Graph, Channel, source_of, source_in, ends_at}
use Rattle.strc_elab_graph.specs.Graphs.{FileReader, reads_input}
use Rattle.strc_elab_graph.specs.Carriers.{takes_at, JoinsCarriers}

-- one channel before another: by the node that it leaves, and then by the port
abbrev pub IsBefore : Channel → Channel → Type 0
IsBefore first second = (first.source.node < second.source.node)
    ⊎ ((first.source.node ≡ second.source.node) × (first.source.port < second.source.port))

-- a graph of nodes and channels is the flat graph of a tree
pub record IsFlat (tree : trees.Stream NodeCode) (graph : Graph) : Type 0 where
  -- its nodes are the tree's
  pub nodes : graph.nodes ≡ (trees.layout tree).codes
  -- what comes to each input port that carries items comes from where the tree says
  pub sources : (node port : ℕ) → takes_at graph.nodes node port ≡ true
      → source_in graph.channels node port ≡ (trees.flat tree).source node port
  -- each channel joins ports that carry items
  pub joined : All (JoinsCarriers graph.nodes) graph.channels
  -- and is one of those
  pub channels : All (λ channel. (trees.flat tree).source channel.target.node channel.target.port
      ≡ source_of channel) graph.channels
  -- and no two leave one port
  pub ordered : AllPairs IsBefore graph.channels

-- the program's input, from its first item on
abbrev pub program_input : Source
program_input = record { enqueued = []; origin = flat.Input }

-- a channel ends at an input port
abbrev pub IsFed : Graph → (node port : ℕ) → Type 0
IsFed graph node port = (number : ℕ) × (channel : Channel)
    × (slice_get graph.channels number ≡ Some channel) × (ends_at node port channel ≡ true)

-- a graph is the flat graph of a whole program: nothing comes from outside but what its one reader
-- reads
pub record IsProgram (tree : trees.Stream NodeCode) (graph : Graph) : Type 0 where
  pub flat : IsFlat tree graph
  pub inputs : (node : ℕ) (text : List ℕ) → slice_get graph.nodes node ≡ Some (FileReader text)
      → (trees.flat tree).source node 0 ≡ program_input
  pub fed : (node port : ℕ) → takes_at graph.nodes node port ≡ true → IsFed graph node port
  pub one_input : count_by reads_input graph.nodes ≤ 1
