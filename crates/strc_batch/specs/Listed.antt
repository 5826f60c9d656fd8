-- How many firings of a round the lists of a batch have, one after another: firings of one node in
-- a row are counted, not listed.
use Rattle.std.specs.Prelude.{ℕ, ◌*◌, ◌≤◌, Bool, true, false, nat_le, List, [], ◌∷◌, length, map}
use Rattle.std.specs.Prelude.{if◌then◌else◌}
use Rattle.std.specs.List.{sum_by}
use Rattle.std.specs.declared.vec.Vec.{Vec}
use Rattle.std.specs.declared.alloc.Global.{Global}
use Rattle.strc_elab_dataflow.specs.FusedUnits.{RoundUnit}
use Rattle.strc_sched_orders.specs.declared.unit as units
use Rattle.strc_fuse.specs.Units.{round_units}
use Rattle.strc_batch.specs.declared.listed.TheConstants.{FIRINGS_LIMIT, LISTED_LIMIT, ROUNDS_LIMIT}

-- A group's units are one node's firings in a row, or none.
abbrev pub fires_at_once : List RoundUnit → Bool
fires_at_once [] = true
fires_at_once (unit ∷ []) = nat_le (length unit.nodes) 1
fires_at_once (unit ∷ (next ∷ rest)) = false

-- How many firings units have.
abbrev pub firing_total : List RoundUnit → ℕ
firing_total units = sum_by (λ unit. unit.turns * length unit.nodes) units

-- How many of a group's are in a list, of a fused unit or a feedback loop.
abbrev pub listed_firings : List RoundUnit → ℕ
listed_firings units = if fires_at_once units then 0 else firing_total units

-- How many groups list.
abbrev pub listed_in : List (List RoundUnit) → ℕ
listed_in groups = sum_by listed_firings groups

-- The units of groups, without where their lists lie in memory.
abbrev pub group_view : Vec units.Unit.Unit Global → List RoundUnit
group_view units = round_units units.items

abbrev pub units_in : List (Vec units.Unit.Unit Global) → List (List RoundUnit)
units_in groups = map group_view groups

-- A batch of so many rounds is short enough, where a round lists so many firings.
pub record IsShort (listed rounds : ℕ) : Type 0 where
  pub rounds_few : rounds ≤ ROUNDS_LIMIT
  pub listed_few : listed ≤ LISTED_LIMIT
  pub firings_few : rounds * listed ≤ FIRINGS_LIMIT
