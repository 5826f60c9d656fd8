use Rattle.std.proofs.Common.{take}
use Rattle.strc_elab_graph.specs.NodeView.{graph_view}
use Rattle.strc_elab_dataflow.specs.FusedUnits.{AreFree}
use Rattle.strc_fuse.specs.Units.{is_free}
use Rattle.strc_fuse.proofs.freedom.are_free.Given as goal

abbrev pub invariant-loop-node : goal.invariant-loop-node
invariant-loop-node l = AreFree (is_free (graph_view l.graph)) (take l.node-index l.nodes)
