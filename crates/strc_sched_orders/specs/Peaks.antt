-- The greatest numbers of items on channels while an order fires.
use Rattle.std.specs.Prelude.{◌≡◌, ℕ, ◌<◌, ◌≤◌, max, List, length, slice_get, slice_index}
use Rattle.std.specs.Prelude.{Some, All}
use Rattle.strc_balance.specs.Balance.{count_at}
use Rattle.strc_startup.specs.declared.channel_rates.ChannelRates.{ChannelRates}
use Rattle.strc_sched_orders.specs.declared.unit as units
use Rattle.strc_sched_orders.specs.Buffers.{peak_fill, size_limit}
use Rattle.strc_sched_orders.specs.Firings.{Firings, fill}
use Rattle.strc_sched_orders.specs.Order.{after}

-- no channel has more items than a number of its own
abbrev pub AreBelow : List ChannelRates → Firings → (peaks : List ℕ) → Type 0
AreBelow channels counts peaks =
    (number : ℕ) (rates : ChannelRates) → slice_get channels number ≡ Some rates
    → fill rates counts ≤ slice_index peaks number

-- these numbers are raised to the greatest numbers of items while an order fires
abbrev pub AreRaised : List ChannelRates → Firings → (order before now : List ℕ) → Type 0
AreRaised channels counts order before now =
    (number : ℕ) (rates : ChannelRates) → slice_get channels number ≡ Some rates
    → slice_index now number ≡ max (slice_index before number) (peak_fill rates counts order)

-- some of these numbers are raised to the numbers of items
pub record AreTouched (channels : List ChannelRates) (counts : Firings) (before now : List ℕ)
    : Type 0 where
  pub grown : (number : ℕ) → slice_index before number ≤ slice_index now number
  pub within : (number : ℕ) (rates : ChannelRates) → slice_get channels number ≡ Some rates
      → slice_index now number ≤ max (slice_index before number) (fill rates counts)

-- the first of some sizes that is past the limit
pub record IsFirstPast (sizes : List ℕ) (channel : ℕ) : Type 0 where
  pub there : channel < length sizes
  pub passes : size_limit < slice_index sizes channel
  pub lowest : (lower : ℕ) → lower < channel → slice_index sizes lower ≤ size_limit

-- the nodes of a unit are there
abbrev pub HasNodes : (size : ℕ) → units.Unit.Unit → Type 0
HasNodes size unit = All (λ node. node < size) unit.nodes.items

-- the firings of an order are counted, and numbers raised to the greatest numbers of items
pub record Raises (channels : List ChannelRates) (order counts peaks later raised : List ℕ) : Type 0
  where
    pub counted : count_at later ≡ after (count_at counts) order
    pub nodes : length later ≡ length counts
    pub channel : length raised ≡ length peaks
    pub peak : AreRaised channels (count_at counts) order peaks raised
