use Rattle.std.proofs.Common.{◌≡◌, ◌++◌, drop}
use Rattle.strc_cli_output.specs.Works as spec
use Rattle.strc_cli_output.proofs.works.round_works.Given as goal

-- the work of the nodes so far, and of those left
abbrev pub invariant-loop-node : goal.invariant-loop-node
invariant-loop-node l =
    l.works.items ++ spec.round_works (drop l.node l.firings) (drop l.node l.counts)
    ≡ spec.round_works l.firings l.counts
