-- What the nodes and channels of a stream are: its flat graph.
use Rattle.std.specs.Prelude.{◌≡◌, ◌≤◌, length, count_by}
use Rattle.strc_elab_graph.specs.Graphs.{IsGraph, reads_input}
use Rattle.strc_elab_graph.specs.Connections as by_channels
use Rattle.strc_elab_graph.specs.FlatGraphs.{IsProgram}
use Rattle.strc_elab_stream.specs.Instances.{Stream}
use Rattle.strc_elab_stream.specs.Types.{IsWellTyped, IsClosed}
use Rattle.strc_elab_stream.specs.Flattening.{IsFlat, tree_of, codes_of, nodes_of, meaning_of}
use Rattle.strc_elab_stream.specs.Flattening.{outer_loops}
use Rattle.strc_elab_stream.specs.Connections.{IsConnected}
use Rattle.strc_elab_stream.specs.Wires.{wired}

-- nodes in preorder are those of the tree
abbrev pub NodesAreCodes : Type 0
NodesAreCodes = (stream : Stream) → IsWellTyped stream → nodes_of stream ≡ codes_of stream

-- each node has its outermost loop or none
abbrev pub LoopsAreByNode : Type 0
LoopsAreByNode = (stream : Stream) → length (outer_loops 0 stream) ≡ length (nodes_of stream)

-- the channels by recursion are those of the flat graph
abbrev pub WiresAreFlat : Type 0
WiresAreFlat = (stream : Stream) → IsWellTyped stream → IsFlat stream (wired stream)

-- each of them joins ports of the nodes
abbrev pub WiresAreGraphs : Type 0
WiresAreGraphs = (stream : Stream) → IsWellTyped stream → IsGraph (wired stream)

-- a whole program's flat graph with one input at most is a program's
abbrev pub WiresArePrograms : Type 0
WiresArePrograms = (stream : Stream) → IsClosed stream
    → count_by reads_input (nodes_of stream) ≤ 1 → IsProgram (tree_of stream) (wired stream)

-- paths along channels are those of the tree's graph, both ways
abbrev pub WiresConnect : Type 0
WiresConnect = (stream : Stream) → IsWellTyped stream
    → (by_channels.IsConnected (wired stream) → IsConnected (meaning_of stream))
    × (IsConnected (meaning_of stream) → by_channels.IsConnected (wired stream))
