use Rattle.std.proofs.Common.{◌≡◌, take, map}
use Rattle.strc_elab_graph.specs.NodeView.{node_view}
use Rattle.strc_startup.specs.Rates as spec
use Rattle.strc_startup.proofs.rates.first_counts.Given as goal

abbrev pub invariant-loop-node : goal.invariant-loop-node
invariant-loop-node l = l.counts.items
    ≡ map spec.first_count (map node_view (take l.node-index l.nodes))
