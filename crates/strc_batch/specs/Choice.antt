-- How many rounds a batch is to have, by counts that a plan has: how often its units fire, how
-- large its buffers are, and how many units hand their items on.
use Rattle.std.specs.Prelude.{◌≡◌, ℕ, ◌+◌, ◌-◌, ◌*◌, ◌/◌, ◌^◌, min, max, sum, Bool, true, false}
use Rattle.std.specs.Prelude.{not, ◌&&◌, eqb, nat_le, List, [], ◌∷◌, length, map, get_or, if◌then◌else◌}
use Rattle.std.specs.Prelude.{Option, Some, None, slice_get, slice_index}
use Rattle.std.specs.List.{range_with_len}
use Rattle.strc_work_writes.specs.Stateless.{is_stateless}
use Rattle.strc_elab_graph.specs.Graphs.{NodeCode, Filter}
use Rattle.strc_elab_graph.specs.declared.graph.Port.{Port}
use Rattle.strc_elab_dataflow.specs.FusedUnits.{RoundUnit}
use Rattle.strc_startup.specs.Rates.{look_at, pop_at, push_at}
use Rattle.strc_fuse.specs.Units.{round_units}
use Rattle.strc_stage_plan.specs.Plans.{PlanParts, transformed_of}
use Rattle.strc_batch.specs.declared.choice.SingleRates.{SingleRates}
use Rattle.strc_batch.specs.declared.choice.TheConstants.{CACHED_ITEMS, LANES, LEAST_BATCHES}

-- How often the unit with the fewest turns fires, at most so often as is done at once.
abbrev pub least_turns : List RoundUnit → ℕ
least_turns [] = LANES
least_turns (unit ∷ units) = min unit.turns (least_turns units)

-- The least number of rounds in which what fires so often in one fires that often; one that never
-- fires counts as one that fires once.
abbrev pub batch_for_lanes : (turns : ℕ) → ℕ
batch_for_lanes turns =
    if nat_le LANES turns then 1 else (LANES - 1) / max turns 1 + 1

-- ---- units that hand their items on

-- One without state fires many times at once.
abbrev pub keeps_state : Option NodeCode → Bool
keeps_state (Some (Filter name filter)) = not (is_stateless filter)
keeps_state _ = false

abbrev pub port_of : RoundUnit → Port
port_of unit = record { node = slice_index unit.nodes 0; port = 0 }

-- A unit is a single firing of a filter with state, which looks at no item that it doesn't take.
abbrev pub is_single : List NodeCode → RoundUnit → Bool
is_single codes unit =
    eqb unit.turns 1 && eqb (length unit.nodes) 1
    && keeps_state (slice_get codes (slice_index unit.nodes 0))
    && nat_le (look_at codes 1 (port_of unit)) (pop_at codes 1 (port_of unit))

-- Its rates, if it is one.
pub record AreRatesOf (codes : List NodeCode) (unit : RoundUnit) (rates : SingleRates) : Type 0
  where
    pub single : is_single codes unit ≡ true
    pub pops : rates.pops ≡ pop_at codes 1 (port_of unit)
    pub pushes : rates.pushes ≡ push_at codes 1 (port_of unit)

abbrev pub IsSingleRates : List NodeCode → RoundUnit → Option SingleRates → Type 0
IsSingleRates codes unit (Some rates) = AreRatesOf codes unit rates
IsSingleRates codes unit None = is_single codes unit ≡ false

-- Two units are such firings, and the second takes as many items as the first gives.
abbrev pub hands_on : List NodeCode → (unit next : RoundUnit) → Bool
hands_on codes unit next =
    is_single codes unit && is_single codes next
    && eqb (push_at codes 1 (port_of unit)) (pop_at codes 1 (port_of next))

abbrev pub no_unit : RoundUnit
no_unit = record { turns = 0; nodes = [] }

-- How many of the units hand on to the next one: 1 for the unit at a place that does.
abbrev pub handing_at : List NodeCode → List RoundUnit → (place : ℕ) → ℕ
handing_at codes units place =
    if hands_on codes (get_or units place no_unit) (get_or units (place + 1) no_unit) then 1 else 0

abbrev pub hand_ons : List NodeCode → List RoundUnit → ℕ
hand_ons codes units = sum (map (handing_at codes units) (range_with_len 0 (length units - 1)))

-- Most units do: three of four.
abbrev pub is_chained : List NodeCode → List RoundUnit → Bool
is_chained codes units = nat_le (3 * length units) (4 * hand_ons codes units)

-- ---- the choice

-- For firings that want so many rounds, buffers that hold so much, so many rounds, and steps that
-- are to have so many of them.
abbrev pub suited_batch : (lanes held rounds least : ℕ) → ℕ
suited_batch lanes held rounds least =
    max (min (min (max lanes least) (rounds / LEAST_BATCHES)) (CACHED_ITEMS / max held 1)) 1

abbrev pub plan_round : PlanParts → List RoundUnit
plan_round plan = round_units plan.split.schedule.round

-- How many items a plan's buffers hold, as far as 64 bits count them.
abbrev pub plan_held : PlanParts → ℕ
plan_held plan = min (sum plan.split.schedule.sizes) (2 ^ 64 - 1)

-- How many rounds the firings of a plan want.
abbrev pub lanes_batch : PlanParts → ℕ
lanes_batch plan =
    if is_chained (transformed_of plan).nodes (plan_round plan) then 1
    else batch_for_lanes (least_turns (plan_round plan))

abbrev pub chosen_batch : PlanParts → (rounds least : ℕ) → ℕ
chosen_batch plan rounds least = suited_batch (lanes_batch plan) (plan_held plan) rounds least
