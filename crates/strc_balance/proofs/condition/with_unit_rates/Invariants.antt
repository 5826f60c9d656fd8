use Rattle.std.proofs.Common.{◌≡◌, take}
use Rattle.strc_balance.specs.Conditions.{all_unit_rates}
use Rattle.strc_balance.proofs.condition.with_unit_rates.Given as goal

abbrev pub invariant-loop-equation : goal.invariant-loop-equation
invariant-loop-equation l = l.channels.items ≡ all_unit_rates (take l.equation-index l.equations)
