-- Greedy orders: of the nodes that have firings left and find their windows the lowest fires, as
-- often as it can at once.
use Rattle.std.specs.Prelude.{◌≡◌, ℕ, ◌-◌, ◌<◌, ◌≤◌, List, [], ◌∷◌, ◌++◌}
use Rattle.strc_startup.specs.declared.channel_rates.ChannelRates.{ChannelRates}
use Rattle.strc_sched_orders.specs.declared.unit as units
use Rattle.strc_sched_orders.specs.Firings.{Firings, turns_of, fired, FindsWindows}
use Rattle.strc_sched_orders.specs.Order.{firing_count, repeated}

-- the firings that units mean: the list of each as often as it has turns
abbrev pub firings_of : List units.Unit.Unit → List ℕ
firings_of [] = []
firings_of (unit ∷ rest) = repeated unit.turns unit.nodes.items ++ firings_of rest

-- of firings that are left those are left yet after so many of a node
abbrev pub less_turns : Firings → (turns node : ℕ) → Firings
less_turns left turns node other = left other - turns_of turns node other

-- of the nodes that have firings left and find their windows this is the lowest, and it can fire so
-- often at once and no more
pub record IsNext (channels : List ChannelRates) (counts left : Firings) (turns node : ℕ) : Type 0
  where
    pub some : 0 < turns
    pub within : turns ≤ left node
    pub finds : (earlier : ℕ) → earlier < turns
        → FindsWindows channels (fired counts earlier node) node
    pub most : turns < left node → ¬ FindsWindows channels (fired counts turns node) node
    pub lowest : (lower : ℕ) → lower < node → 0 < left lower → ¬ FindsWindows channels counts lower

-- each unit is the next one
abbrev pub IsGreedy : List ChannelRates → (counts left : Firings) → List units.Unit.Unit → Type 0
IsGreedy channels counts left [] = Unit {0}
IsGreedy channels counts left (unit ∷ rest) =
    (node : ℕ) × (unit.nodes.items ≡ node ∷ []) × IsNext channels counts left unit.turns node
    × IsGreedy channels (fired counts unit.turns node) (less_turns left unit.turns node) rest

-- they are a greedy order of so many firings of each node
pub record IsGreedyOrder (channels : List ChannelRates) (counts firings : Firings)
    (order : List units.Unit.Unit) : Type 0 where
  pub greedy : IsGreedy channels counts firings order
  pub all : (node : ℕ) → firing_count (firings_of order) node ≡ firings node
