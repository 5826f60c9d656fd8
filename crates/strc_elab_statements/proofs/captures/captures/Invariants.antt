use Rattle.std.proofs.Common.{◌≡◌}
use Rattle.strc_elab_statements.proofs.Surroundings.{captures_at}
use Rattle.strc_elab_statements.proofs.captures.captures.Given as goal

abbrev pub invariant-loop-number : goal.invariant-loop-number
invariant-loop-number l = l.captures ≡ captures_at l.variables.names l.variables.variables l.number
    l.constants
