use Rattle.std.proofs.Common.{◌≡◌}
use Rattle.strc_fuse.specs.Units.{round_units}
use Rattle.strc_fiss.specs.Numbers.{up_to}
use Rattle.strc_fiss.specs.OwnUnits.{dealt_count}
use Rattle.strc_fiss.proofs.own_units.dealt_counts.Given as goal

abbrev pub invariant-loop-node : goal.invariant-loop-node
invariant-loop-node l =
    l.dealt.items
    ≡ up_to (dealt_count l.graph.outer_loops (round_units l.round) l.counts) l.node
