-- A graph of nodes and channels as a flat graph by sources: what comes to an input port comes by
-- the channel that ends there, and a reader takes the program's input.
use Rattle.std.specs.Prelude.{◌≡◌, ℕ, Bool, false, length, All, Option, Some, None}
use Rattle.std.specs.Prelude.{slice_get, get_or, if◌then◌else◌}
use Rattle.strc_elab_dataflow.specs.Flat.{Source}
use Rattle.strc_elab_dataflow.specs.Flat as flat
use Rattle.strc_elab_graph.specs.Graphs.{NodeCode, Graph, reads_input, source_of, source_in}
use Rattle.strc_elab_graph.specs.FlatGraphs.{program_input}

-- whether it is a node that takes the program's input
abbrev pub takes_input : Option NodeCode → Bool
takes_input (Some code) = reads_input code
takes_input None = false

-- what comes to an input port of a node
abbrev pub source_at : Graph → (node port : ℕ) → Source
source_at graph node port = if takes_input (slice_get graph.nodes node) then program_input
    else source_in graph.channels node port

-- the flat graph, where this code stands for what is past the last node
abbrev pub flat_graph : (past : NodeCode) → Graph → flat.Graph NodeCode
flat_graph past graph = record {
  size = length graph.nodes;
  code = λ node. get_or graph.nodes node past;
  source = source_at graph;
}

-- what comes by a channel is what comes to the port where it ends: no two channels of different
-- sources end at one port
abbrev pub EndApart : Graph → Type 0
EndApart graph = All (λ channel.
    source_in graph.channels channel.target.node channel.target.port ≡ source_of channel)
    graph.channels
