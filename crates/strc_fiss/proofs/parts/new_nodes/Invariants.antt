use Rattle.std.proofs.Common.{◌≡◌, map}
use Rattle.strc_elab_graph.specs.NodeView.{node_view}
use Rattle.strc_fiss.specs.Numbers.{share_at, each_part}
use Rattle.strc_fiss.specs.Splitting.{new_code}
use Rattle.strc_fiss.proofs.parts.new_nodes.Given as goal

abbrev pub invariant-loop-node : goal.invariant-loop-node
invariant-loop-node l =
    map node_view l.parts.items
    ≡ each_part (share_at l.shares) (new_code (share_at l.shares) (map node_view l.nodes)) l.node
