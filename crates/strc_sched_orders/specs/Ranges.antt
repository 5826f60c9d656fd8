-- The shape of greedy orders: ranges of nodes into which no channel leads from a later one fire one
-- after the other (Lee and Messerschmitt 1987: a class S algorithm takes the lowest node).
use Rattle.std.specs.Prelude.{◌≡◌, ℕ, zero, suc, ◌<◌, ◌≤◌, List, [], ◌∷◌, ◌++◌, All}
use Rattle.strc_startup.specs.declared.channel_rates.ChannelRates.{ChannelRates}
use Rattle.strc_sched_orders.specs.declared.unit as units
use Rattle.strc_sched_orders.specs.Firings.{Firings}
use Rattle.strc_sched_orders.specs.Greedy.{firings_of, IsGreedyOrder}
use Rattle.strc_sched_orders.specs.Order.{firing_count}
use Rattle.strc_sched_orders.specs.Peaks.{HasNodes}

-- no channel leads from a node that isn't below a bound to one that is
abbrev pub IsClosedBelow : List ChannelRates → (bound : ℕ) → Type 0
IsClosedBelow channels bound = All (λ rates. rates.target < bound → rates.source < bound) channels

-- a unit has no nodes below a bound
abbrev pub HasNodesFrom : (bound : ℕ) → units.Unit.Unit → Type 0
HasNodesFrom bound unit = All (λ node. bound ≤ node) unit.nodes.items

-- the nodes of units are from a bound to the next
pub record IsRange (first next : ℕ) (order : List units.Unit.Unit) : Type 0 where
  pub from : All (HasNodesFrom first) order
  pub below : All (HasNodes next) order

-- units of nodes below a bound, and then of others
pub record IsSplitAt (bound : ℕ) (order : List units.Unit.Unit) : Type 0 where
  pub low : List units.Unit.Unit
  pub high : List units.Unit.Unit
  pub whole : order ≡ low ++ high
  pub below : All (HasNodes bound) low
  pub from : All (HasNodesFrom bound) high

-- so many lists of units, one after another
abbrev pub joined_units : (parts : (part : ℕ) → List units.Unit.Unit) → (count : ℕ)
    → List units.Unit.Unit
joined_units parts zero = []
joined_units parts (suc count) = joined_units parts count ++ parts count

-- the units are those of so many ranges, one range after another
pub record IsInRanges (bound : (part : ℕ) → ℕ) (count : ℕ) (order : List units.Unit.Unit) : Type 0
  where
    pub parts : (part : ℕ) → List units.Unit.Unit
    pub whole : order ≡ joined_units parts count
    pub each : (part : ℕ) → part < count → IsRange (bound part) (bound (suc part)) (parts part)

-- a channel to a node, or to a lower one, begins at a node that is lower than the first: in no
-- feedback loop, and with all that it is fed by before it
abbrev pub IsOuter : List ChannelRates → (node : ℕ) → Type 0
IsOuter channels node = All (λ rates. rates.target ≤ node → rates.source < node) channels

-- all firings of a node are one unit, after all firings of lower nodes
pub record HasOneUnit (firings : Firings) (order : List units.Unit.Unit) (node : ℕ) : Type 0 where
  pub before : List units.Unit.Unit
  pub unit : units.Unit.Unit
  pub later : List units.Unit.Unit
  pub whole : order ≡ before ++ unit ∷ later
  pub turns : unit.turns ≡ firings node
  pub nodes : unit.nodes.items ≡ node ∷ []
  pub lower : All (HasNodes node) before
  pub higher : All (HasNodesFrom (suc node)) later
  pub done : (other : ℕ) → other < node
      → firing_count (firings_of before) other ≡ firings other

-- a greedy order of all firings goes through a closed part of the nodes first
abbrev pub LowNodesFireFirst : Type 0
LowNodesFireFirst =
    (channels : List ChannelRates) (counts firings : Firings) (order : List units.Unit.Unit)
    (bound : ℕ) → IsGreedyOrder channels counts firings order → IsClosedBelow channels bound
    → IsSplitAt bound order

-- and through closed ranges one after another
abbrev pub RangesFireInTurn : Type 0
RangesFireInTurn =
    (channels : List ChannelRates) (counts firings : Firings) (order : List units.Unit.Unit)
    (bound : (part : ℕ) → ℕ) (count : ℕ) → IsGreedyOrder channels counts firings order
    → ((part : ℕ) → part ≤ count → IsClosedBelow channels (bound part))
    → ((node : ℕ) → 0 < firings node → (bound 0 ≤ node) × (node < bound count))
    → IsInRanges bound count order

-- outside feedback loops each node fires in one unit
abbrev pub OuterNodesHaveOneUnit : Type 0
OuterNodesHaveOneUnit =
    (channels : List ChannelRates) (counts firings : Firings) (order : List units.Unit.Unit)
    (node : ℕ) → IsGreedyOrder channels counts firings order → IsOuter channels node
    → 0 < firings node → HasOneUnit firings order node
