use Rattle.std.proofs.Common.{ℕ, ◌<◌, get_or}
use Rattle.strc_balance.specs.declared.equation.Equation.{Equation}
use Rattle.strc_balance.specs.Rates.{IsRated}
use Rattle.strc_balance.proofs.condition.are_rated.Given as goal

abbrev pub invariant-loop-equation : goal.invariant-loop-equation
invariant-loop-equation l = (k : ℕ) (d : Equation) → k < l.equation-index
    → IsRated (get_or l.equations k d)
