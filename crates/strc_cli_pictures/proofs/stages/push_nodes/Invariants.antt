use Rattle.std.proofs.Common.{◌≡◌, ◌++◌}
use Rattle.strc_cli_pictures.specs.Stages.{node_lines}
use Rattle.strc_cli_pictures.specs.Lists.{nodes_of}
use Rattle.strc_cli_pictures.proofs.stages.push_nodes.Given as goal

-- the text so far and the lines of the nodes left are the whole
abbrev pub invariant-loop-node : goal.invariant-loop-node
invariant-loop-node l =
    l.text.items ++ node_lines (nodes_of l.counted) l.node l.end
    ≡ l.fn.text.items ++ node_lines (nodes_of l.counted) l.first l.end
