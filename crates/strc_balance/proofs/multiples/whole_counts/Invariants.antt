use Rattle.std.proofs.Common.{◌≡◌, take, map, false}
use Rattle.std.specs.List.{list_any}
use Rattle.strc_balance.specs.Balance.{whole_count, passes}
use Rattle.strc_balance.proofs.multiples.whole_counts.Given as goal

abbrev pub invariant-loop-fraction : goal.invariant-loop-fraction
invariant-loop-fraction l = record {
  found : l.counts.items ≡ map (whole_count l.scale) (take l.fraction-index l.fractions);
  within : list_any passes l.counts.items ≡ false;
}
