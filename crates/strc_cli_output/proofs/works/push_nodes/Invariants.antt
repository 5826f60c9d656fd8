use Rattle.std.proofs.Common.{◌≡◌, ◌++◌, drop}
use Rattle.strc_cli_output.specs.Works.{node_lines, told_view}
use Rattle.strc_cli_output.proofs.works.push_nodes.Given as goal

-- the text so far and the lines of the nodes left are the whole
abbrev pub invariant-loop-node : goal.invariant-loop-node
invariant-loop-node l =
    l.text.items ++ node_lines (told_view l.told) (drop l.node-index l.numbers)
    ≡ l.fn.text.items ++ node_lines (told_view l.told) l.numbers
