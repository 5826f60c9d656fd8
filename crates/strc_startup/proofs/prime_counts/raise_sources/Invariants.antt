use Rattle.std.proofs.Common.{◌≡◌, ℕ, Contains, take, Some, slice_get}
use Rattle.strc_startup.specs.Raises.{Raises}
use Rattle.strc_startup.specs.Waiting.{Waits}
use Rattle.strc_startup.specs.declared.channel_rates.ChannelRates.{ChannelRates}
use Rattle.strc_startup.proofs.prime_counts.raise_sources.Given as goal

abbrev pub invariant-loop-number : goal.invariant-loop-number
invariant-loop-number l = record {
  raises : Raises l.channels l.initial.counts l.initial.waiting l.counts l.waiting;
  served : (channel : ℕ) (rates : ChannelRates) → Contains (take l.number-index l.numbers) channel
      → slice_get l.channels channel ≡ Some rates → Waits l.counts l.waiting rates;
}
