use Rattle.std.proofs.Common.{◌≡◌, ◌<◌, ◌≤◌, drop}
use Rattle.strc_balance.specs.Balance.{scale_from}
use Rattle.strc_balance.proofs.multiples.scale_of.Given as goal

abbrev pub invariant-loop-fraction : goal.invariant-loop-fraction
invariant-loop-fraction l = record {
  rest : scale_from l.scale (drop l.fraction-index l.fractions) ≡ scale_from 1 l.fractions;
  some : 0 < l.scale;
  within : l.scale ≤ 1000000;
}
