use Rattle.std.proofs.Common.{◌≡◌, ◌++◌, drop}
use Rattle.std.specs.Prelude.{flat_map}
use Rattle.strc_cli_pictures.specs.Stages.{node_row}
use Rattle.strc_cli_pictures.proofs.units.push_rows.Given as goal

-- the text so far and the nodes left are the whole
abbrev pub invariant-loop-node : goal.invariant-loop-node
invariant-loop-node l =
    l.text.items ++ flat_map node_row (drop l.node-index l.nodes)
    ≡ l.fn.text.items ++ flat_map node_row l.nodes
