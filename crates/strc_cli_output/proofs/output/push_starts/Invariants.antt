use Rattle.std.proofs.Common.{◌≡◌, ◌++◌, drop}
use Rattle.strc_cli_output.specs.Output.{start_lines}
use Rattle.strc_cli_output.proofs.output.push_starts.Given as goal

-- the text so far and the lines of the nodes left are the whole
abbrev pub invariant-loop-node : goal.invariant-loop-node
invariant-loop-node l =
    l.text.items ++ start_lines l.node (drop l.node l.counts)
    ≡ l.fn.text.items ++ start_lines 0 l.counts
