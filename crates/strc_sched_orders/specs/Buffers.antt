-- How many items are on channels while an order fires, and the sizes of their buffers.
use Rattle.std.specs.Prelude.{ℕ, max, List, [], ◌∷◌}
use Rattle.strc_startup.specs.declared.channel_rates.ChannelRates.{ChannelRates}
use Rattle.strc_sched_orders.specs.declared.limit.TheConstants.{SIZE_LIMIT}
use Rattle.strc_sched_orders.specs.declared.unit as units
use Rattle.strc_sched_orders.specs.Firings.{Firings, none_fired, fired, fill}
use Rattle.strc_sched_orders.specs.Greedy.{firings_of}

-- the greatest number of items on a channel before, between and after the firings of an order
abbrev pub peak_fill : ChannelRates → Firings → (order : List ℕ) → ℕ
peak_fill rates counts [] = fill rates counts
peak_fill rates counts (node ∷ order) =
    max (fill rates counts) (peak_fill rates (fired counts 1 node) order)

-- the size of a channel's buffer: the greatest number of items there in start-up and in a round
abbrev pub buffer_size : (startup : Firings) → (startup_units round_units : List units.Unit.Unit)
    → ChannelRates → ℕ
buffer_size startup startup_units round_units rates =
    max (peak_fill rates none_fired (firings_of startup_units))
    (peak_fill rates startup (firings_of round_units))

-- the greatest size of a buffer
abbrev pub size_limit : ℕ
size_limit = SIZE_LIMIT
