use Rattle.std.proofs.Common.{◌≡◌, ℕ, ◌<◌, length, All}
use Rattle.strc_balance.specs.Frontiers.{channels_at}
use Rattle.strc_balance.proofs.Incidences.{AreListed}
use Rattle.strc_balance.proofs.incidence.incidence_of.Given as goal

abbrev pub invariant-loop-channel : goal.invariant-loop-channel
invariant-loop-channel l = record {
  size : length l.incidence ≡ l.size;
  listed : AreListed l.incidence l.equations l.channel;
  numbers : (node : ℕ) → All (λ k. k < length l.equations) (channels_at l.incidence node);
}
