-- Which streams are connected: from each node of the flat graph there is a path to each other,
-- along
-- the ways of items and against them.
use Rattle.std.specs.Prelude.{◌≡◌, ℕ, ◌<◌, true}
use Rattle.strc_elab_dataflow.specs.Flat as flat
use Rattle.strc_elab_graph.specs.Carriers.{carries_in, carries_out}
use Rattle.strc_elab_graph.specs.Graphs.{NodeCode}

-- items leave an output port of one node and come to an input port of another
pub record Feeds (graph : flat.Graph NodeCode) (node other : ℕ) : Type 0 where
  pub output : ℕ
  pub input : ℕ
  pub is_output : carries_out (graph.code node) output ≡ true
  pub is_input : carries_in (graph.code other) input ≡ true
  pub comes : (graph.source other input).origin ≡ flat.Port node output

-- a path from node to node, each of which feeds the next one or is fed by it
pub data Path (graph : flat.Graph NodeCode) : ℕ → ℕ → Type 0 where
  Here : {node : ℕ} → Path graph node node
  Along : {node next last : ℕ} → Feeds graph node next → Path graph next last → Path graph node last
  Against : {node next last : ℕ} → Feeds graph next node → Path graph next last
      → Path graph node last

-- from each node there is a path to each other
abbrev pub IsConnected : flat.Graph NodeCode → Type 0
IsConnected graph = (node other : ℕ) → node < graph.size → other < graph.size
    → Path graph node other
