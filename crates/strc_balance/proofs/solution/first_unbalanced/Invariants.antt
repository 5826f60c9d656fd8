use Rattle.std.proofs.Common.{◌≡◌, drop}
use Rattle.strc_balance.specs.Balance as spec
use Rattle.strc_balance.proofs.solution.first_unbalanced.Given as goal

abbrev pub invariant-loop-channel : goal.invariant-loop-channel
invariant-loop-channel l = spec.first_unbalanced l.channel l.counts (drop l.channel l.equations)
    ≡ spec.first_unbalanced 0 l.counts l.equations
