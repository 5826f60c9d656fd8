use Rattle.std.proofs.Common.{map}
use Rattle.strc_elab_graph.specs.NodeView.{node_view}
use Rattle.strc_live_runs.proofs.Starts.{NoneReads}
use Rattle.strc_live_runs.proofs.start.reader_of.Given as goal

-- no node so far reads the input
abbrev pub invariant-loop-node : goal.invariant-loop-node
invariant-loop-node l = NoneReads (map node_view l.nodes) l.node
