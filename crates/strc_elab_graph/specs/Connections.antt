-- Graphs whose nodes are all connected by channels, taken without direction.
use Rattle.std.specs.Prelude.{◌≡◌, ℕ, ◌<◌, List, length, Contains}
use Rattle.strc_elab_graph.specs.Graphs.{Channel, Graph}

-- a path from node to node, along channels and against them
pub data Path (channels : List Channel) : ℕ → ℕ → Type 0 where
  Here : {node : ℕ} → Path channels node node
  Along : {node last : ℕ} (channel : Channel) → Contains channels channel
      → channel.source.node ≡ node → Path channels channel.target.node last
      → Path channels node last
  Against : {node last : ℕ} (channel : Channel) → Contains channels channel
      → channel.target.node ≡ node → Path channels channel.source.node last
      → Path channels node last

-- from each node there is a path to each other
abbrev pub IsConnected : Graph → Type 0
IsConnected graph =
    (node other : ℕ) → node < length graph.nodes → other < length graph.nodes
    → Path graph.channels node other
