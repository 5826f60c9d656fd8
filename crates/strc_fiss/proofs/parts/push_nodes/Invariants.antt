use Rattle.std.proofs.Common.{◌≡◌, ◌++◌, map}
use Rattle.strc_elab_graph.specs.NodeView.{node_view}
use Rattle.strc_fiss.specs.Numbers.{up_to}
use Rattle.strc_fiss.specs.Splitting.{part_code}
use Rattle.strc_fiss.proofs.parts.push_nodes.Given as goal

abbrev pub invariant-loop-part : goal.invariant-loop-part
invariant-loop-part l =
    map node_view l.parts.items
    ≡ map node_view l.fn.parts.items ++ up_to (part_code (node_view l.node) l.share) l.part
