-- The units of a round as fusion sees them (Gordon, Thies and Amarasinghe 2006: fusion; Lee and
-- Messerschmitt 1987: a round's schedule).
use Rattle.std.specs.Prelude.{◌≡◌, ℕ, ◌*◌, ◌<◌, Bool, true, false, ◌&&◌, if◌then◌else◌}
use Rattle.std.specs.Prelude.{List, [], ◌∷◌, map, All, Option, Some, None, slice_get}
use Rattle.strc_elab_graph.specs.Graphs.{Graph, NodeCode}
use Rattle.strc_elab_graph.specs.Rates.{fires_by_rounds}
use Rattle.strc_startup.specs.declared.channel_rates.ChannelRates.{ChannelRates}
use Rattle.strc_sched_orders.specs.declared.unit as units
use Rattle.strc_sched_orders.specs.Firings.{Firings}
use Rattle.strc_sched_orders.specs.Order.{firing_count}
use Rattle.strc_elab_dataflow.specs.FusedUnits.{RoundUnit, AreFree, nodes_of}

-- units without where their lists lie in memory
abbrev pub round_unit : units.Unit.Unit → RoundUnit
round_unit unit = record { turns = unit.turns; nodes = unit.nodes.items }

abbrev pub round_units : List units.Unit.Unit → List RoundUnit
round_units units = map round_unit units

-- whether a node with this outermost feedback loop, or none, is outside feedback loops
abbrev pub is_outside : Option (Option ℕ) → Bool
is_outside (Some None) = true
is_outside (Some (Some loop)) = false
is_outside None = false

-- whether it is a node, but no scatter, copy or gather
abbrev pub is_whole_node : Option NodeCode → Bool
is_whole_node (Some code) = if fires_by_rounds code then false else true
is_whole_node None = false

-- whether a node may be fused: it is outside feedback loops, and no scatter, copy or gather
abbrev pub is_free : Graph → (node : ℕ) → Bool
is_free graph node =
    is_outside (slice_get graph.outer_loops node) && is_whole_node (slice_get graph.nodes node)

module _ (channels : List ChannelRates) (round : Firings) where
  -- all firings of each node of a unit are in this unit, and all firings of the nodes that give to
  -- them are in it or before it
  pub record IsPlaced (unit : RoundUnit) (later : List RoundUnit) : Type 0 where
    pub whole : (node : ℕ) → 0 < firing_count unit.nodes node
        → unit.turns * firing_count unit.nodes node ≡ round node
    pub not_later : (node : ℕ) → 0 < firing_count unit.nodes node
        → firing_count (nodes_of later) node ≡ 0
    pub fed : All (λ rates. 0 < firing_count unit.nodes rates.target
        → firing_count (nodes_of later) rates.source ≡ 0) channels

  -- so is each unit whose nodes may be fused
  abbrev pub ArePlaced : (free : ℕ → Bool) → List RoundUnit → Type 0
  ArePlaced free [] = Unit {0}
  ArePlaced free (unit ∷ later) =
      (AreFree free unit.nodes → IsPlaced unit later) × ArePlaced free later
