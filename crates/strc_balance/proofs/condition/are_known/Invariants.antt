use Rattle.std.proofs.Common.{◌≡◌, ℕ, ◌<◌, true}
use Rattle.std.specs.Prelude.{is_some}
use Rattle.strc_balance.specs.Balance.{fraction_at}
use Rattle.strc_balance.proofs.condition.are_known.Given as goal

abbrev pub invariant-loop-fraction : goal.invariant-loop-fraction
invariant-loop-fraction l = (node : ℕ) → node < l.fraction-index
    → is_some (fraction_at l.fractions node) ≡ true
