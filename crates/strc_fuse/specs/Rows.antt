-- A worked row: a reader, a filter that gives two items for one, a filter that takes three and
-- gives their sum, and a writer.
use Rattle.std.specs.Prelude.{◌≡◌, ℕ, true, List, [], ◌∷◌, map}
use Rattle.strc_startup.specs.declared.channel_rates.ChannelRates.{ChannelRates}
use Rattle.strc_sched_orders.specs.Buffers.{peak_fill}
use Rattle.strc_sched_orders.specs.Firings.{none_fired}
use Rattle.strc_elab_dataflow.specs.FusedUnits.{RoundUnit, AreFused, firings_of}
use Rattle.strc_elab_dataflow.specs.Pieces.{unit_of}

-- a channel whose target looks at no more than it pops
abbrev pub channel : (source push target pop : ℕ) → ChannelRates
channel source push target pop = record {
  source = source;
  enqueued = 0;
  first_push = push;
  push = push;
  target = target;
  prework_window = 0;
  first_window = pop;
  first_pop = pop;
  pop = pop;
  window = pop;
}

abbrev pub channels : List ChannelRates
channels = channel 0 1 1 1 ∷ channel 1 2 2 3 ∷ channel 2 1 3 1 ∷ []

-- the first two fire three times in a round, the last two twice
abbrev pub greedy_units : List RoundUnit
greedy_units = unit_of 3 0 ∷ unit_of 3 1 ∷ unit_of 2 2 ∷ unit_of 2 3 ∷ []

abbrev pub fused_units : List RoundUnit
fused_units =
    record { turns = 3; nodes = 0 ∷ 1 ∷ [] } ∷ record { turns = 2; nodes = 2 ∷ 3 ∷ [] } ∷ []

abbrev pub sizes_of : List RoundUnit → List ℕ
sizes_of units = map (λ rates. peak_fill rates none_fired (firings_of units)) channels

-- with two entries in a list, the buffers of the first and of the last channel hold one item each
pub record FusedRow : Type 0 where
  pub fused : AreFused (λ node. true) 2 greedy_units fused_units
  pub sizes : sizes_of greedy_units ≡ 3 ∷ 6 ∷ 2 ∷ []
  pub fused_sizes : sizes_of fused_units ≡ 1 ∷ 6 ∷ 1 ∷ []
