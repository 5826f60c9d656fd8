use Rattle.std.proofs.Common.{◌≡◌, ◌≤◌, ◌++◌, drop, map}
use Rattle.strc_elab_graph.specs.NodeView.{node_view}
use Rattle.strc_cli_pictures.specs.Pictures.{tape_numbers}
use Rattle.strc_cli_pictures.proofs.tapes.number_tapes.Given as goal

-- the tapes so far, and those of the nodes left
abbrev pub invariant-loop-node : goal.invariant-loop-node
invariant-loop-node l = record {
  few : l.next ≤ l.node-index;
  tapes : l.tapes.items ++ tape_numbers l.next (map node_view (drop l.node-index l.nodes))
      ≡ tape_numbers 0 (map node_view l.nodes);
}
