use Rattle.std.proofs.Common.{◌≡◌, ◌++◌, drop}
use Rattle.strc_emit_program.specs.Orders.{nodes_calls, fired_after}
use Rattle.strc_emit_program.proofs.orders.add_calls.Given as goal

-- the calls so far and those of the nodes left are the whole
abbrev pub invariant-loop-node : goal.invariant-loop-node
invariant-loop-node l = record {
  calls : l.calls.items
      ++ nodes_calls l.unit.turns (drop l.node-index l.unit.nodes.items) l.fired.items
      ≡ l.fn.calls.items ++ nodes_calls l.unit.turns l.unit.nodes.items l.fn.fired.items;
  fired : fired_after l.unit.turns (drop l.node-index l.unit.nodes.items) l.fired.items
      ≡ fired_after l.unit.turns l.unit.nodes.items l.fn.fired.items;
}
