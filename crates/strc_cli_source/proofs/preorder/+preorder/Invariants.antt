use Rattle.std.proofs.Common.{◌≡◌, ◌+◌, ◌++◌, drop, map, None, unwrap_or}
use Rattle.strc_cli_source.specs.Preorders.{seen_view, trees_of, row_nodes, row_size, row_links}
use Rattle.strc_cli_source.specs.Preorders.{row_entry, row_exit, side_links, side_exits, node_count}
use Rattle.strc_cli_source.proofs.preorder.+preorder.Given as goal

-- what is there so far, and then that of the streams left
abbrev pub invariant-visit_row-loop-stream : goal.invariant-visit_row-loop-stream
invariant-visit_row-loop-stream l = record {
  nodes : map seen_view l.order.nodes.items
      ++ row_nodes l.added (trees_of (drop l.stream-index l.streams))
      ≡ map seen_view l.initial.order.nodes.items ++ row_nodes l.added (trees_of l.streams);
  count : node_count l.order + row_size (trees_of (drop l.stream-index l.streams))
      ≡ node_count l.initial.order + row_size (trees_of l.streams);
  links : l.order.links.items
      ++ row_links l.exit (node_count l.order) (trees_of (drop l.stream-index l.streams))
      ≡ l.initial.order.links.items
      ++ row_links None (node_count l.initial.order) (trees_of l.streams);
  entry : unwrap_or l.entry
      (row_entry (node_count l.order) (trees_of (drop l.stream-index l.streams)))
      ≡ row_entry (node_count l.initial.order) (trees_of l.streams);
  exit : row_exit l.exit (node_count l.order) (trees_of (drop l.stream-index l.streams))
      ≡ row_exit None (node_count l.initial.order) (trees_of l.streams);
}

abbrev pub invariant-visit_sides-loop-stream : goal.invariant-visit_sides-loop-stream
invariant-visit_sides-loop-stream l = record {
  nodes : map seen_view l.order.nodes.items
      ++ row_nodes l.added (trees_of (drop l.stream-index l.streams))
      ≡ map seen_view l.initial.order.nodes.items ++ row_nodes l.added (trees_of l.streams);
  count : node_count l.order + row_size (trees_of (drop l.stream-index l.streams))
      ≡ node_count l.initial.order + row_size (trees_of l.streams);
  links : l.order.links.items
      ++ side_links l.splitter (node_count l.order) (trees_of (drop l.stream-index l.streams))
      ≡ l.initial.order.links.items
      ++ side_links l.splitter (node_count l.initial.order) (trees_of l.streams);
  exits : l.exits.items
      ++ side_exits (node_count l.order) (trees_of (drop l.stream-index l.streams))
      ≡ side_exits (node_count l.initial.order) (trees_of l.streams);
}
