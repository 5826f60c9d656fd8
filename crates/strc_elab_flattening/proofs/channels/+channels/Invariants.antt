use Rattle.std.proofs.Common.{◌≡◌, ◌+◌, ◌≤◌, ◌++◌, drop, length, map}
use Rattle.std.specs.Option.{option_map}
use Rattle.strc_elab_graph.specs.NodeView.{channel_view}
use Rattle.strc_elab_stream.specs.Flattening.{row_nodes}
use Rattle.strc_elab_stream.specs.View.{streams_view}
use Rattle.strc_elab_stream.specs.Wires.{row_wires, branch_wires}
use Rattle.strc_elab_flattening.specs.HasNodes.{HaveNodes}
use Rattle.strc_elab_flattening.specs.TargetView.{target_view}
use Rattle.strc_elab_flattening.specs.Verdicts.{node_limit}
use Rattle.strc_elab_flattening.proofs.channels.+channels.Given as goal

-- the channels so far, and then those of the streams left
abbrev pub invariant-wire_row-loop-index : goal.invariant-wire_row-loop-index
invariant-wire_row-loop-index l = record {
  few : l.next + length (row_nodes (streams_view (drop l.index l.streams))) ≤ node_limit;
  nodes : HaveNodes (streams_view (drop l.index l.streams));
  channels : map channel_view l.channels.items
      ++ row_wires l.next (streams_view (drop l.index l.streams)) (option_map target_view l.target)
      ≡ map channel_view l.initial.channels.items
      ++ row_wires l.first (streams_view l.streams) (option_map target_view l.target);
}

abbrev pub invariant-wire_branches-loop-port : goal.invariant-wire_branches-loop-port
invariant-wire_branches-loop-port l = record {
  few : l.next + length (row_nodes (streams_view (drop l.port l.streams))) ≤ node_limit;
  nodes : HaveNodes (streams_view (drop l.port l.streams));
  channels : map channel_view l.channels.items
      ++ branch_wires l.next (streams_view (drop l.port l.streams)) l.joiner l.port
      ≡ map channel_view l.initial.channels.items
      ++ branch_wires l.first (streams_view l.streams) l.joiner 0;
}
