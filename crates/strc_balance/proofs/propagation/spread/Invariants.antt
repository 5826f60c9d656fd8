use Rattle.std.proofs.Common.{◌≡◌, ◌-◌, ◌<◌, false, length}
use Rattle.std.specs.List.{list_any}
use Rattle.strc_balance.specs.Balance.{fraction_passes, propagated, spread}
use Rattle.strc_balance.specs.Frontiers.{Covers}
use Rattle.strc_balance.specs.NumberSets.{AllNumbers}
use Rattle.strc_balance.proofs.Divisors.{IsLowest}
use Rattle.strc_balance.proofs.Spreading.{Known}
use Rattle.strc_balance.proofs.propagation.spread.Given as goal

abbrev pub invariant-loop-turn : goal.invariant-loop-turn
invariant-loop-turn l = record {
  size : length l.fractions.items ≡ l.size;
  same : propagated (l.size - l._turn) l.equations l.fractions.items ≡ spread l.size l.equations;
  lowest : Known (λ node fraction. IsLowest fraction) l.fractions.items;
  within : list_any fraction_passes l.fractions.items ≡ false;
  covers : Covers l.frontier l.fractions.items l.equations;
  numbers : AllNumbers (λ channel. channel < length l.equations) l.frontier;
}
