-- The group of each unit of a plan's round, by the groups of nodes.
use Rattle.std.proofs.Common.{◌≡◌, ◌≢◌, sym, ap, ◌∙◌, subst, ℕ, suc, ◌+◌, ◌<◌, ◌≤◌, List, [], ◌∷◌}
use Rattle.std.proofs.Common.{◌++◌, length, get_or, set, true, false, Bool, arith}
use Rattle.std.specs.Prelude.{All, slice_index}
use Rattle.std.proofs.lemmas.List.{length-map}
use Rattle.strc_elab_dataflow.specs.FusedUnits.{RoundUnit}
use Rattle.strc_elab_dataflow.specs.Ranges.{stage_within}
use Rattle.strc_elab_dataflow.proofs.Ranges.{within_at_most}
use Rattle.strc_elab_graph.specs.NodeView.{node_view}
use Rattle.strc_sched_orders.specs.Peaks.{HasNodes}
use Rattle.strc_sched_orders.specs.declared.unit as unit_type
use Rattle.strc_sched_rings.specs.Parts.{is_within}
use Rattle.strc_sched_rings.specs.Units.{UnitView, unit_view}
use Rattle.strc_sched_rings.proofs.PartLists.{within_true, within_false}
use Rattle.strc_fuse.specs.Units.{round_unit}
use Rattle.strc_stage_plan.specs.Plans.{PlanParts, transformed_of}
use Rattle.strc_stage_cut.specs.Bounds.{bound_in, last_of}
use Rattle.strc_stage_cut.specs.Cuts.{IsCutAt}
use Rattle.strc_stage_cut.proofs.Ranges.{is_outside, own_below, own_from}
use Rattle.strc_batch.specs.Sizes.{AreGroupsOf}
use Rattle.strc_batch.proofs.Parting.{AreParted, node_of, unit_parted}

-- a unit has its first node among so many
pub node_there : (count : ℕ) (nodes : List ℕ) → 0 < count → All (λ node. node < count) nodes
    → slice_index nodes 0 < count
node_there count [] some all = some
node_there count (node ∷ nodes) some all = all 0 node (omega arith)

-- so has each unit of a plan's round
pub unit_there : (plan : PlanParts) (round all : List unit_type.Unit.Unit) (place : ℕ)
    (unit : unit_type.Unit.Unit) → All (HasNodes (length plan.split.graph.nodes)) all
    → round ≡ all → place < length round → unit ≡ get_or round place unit
    → 0 < length (transformed_of plan).nodes → node_of unit < length (transformed_of plan).nodes
unit_there plan round all place unit has same less is some =
    let count = length plan.split.graph.nodes in
    let many : length (transformed_of plan).nodes ≡ count =
    length-map plan.split.graph.nodes node_view in
    let own = subst (HasNodes count) (sym is)
    (subst (λ (l : List unit_type.Unit.Unit). All (HasNodes count) l) (sym same) has place unit
    less) in
    subst (λ n. node_of unit < n) (sym many)
    (node_there count unit.nodes.items (subst (λ n. 0 < n) many some) own)

-- the same unit
pub unit_same : (copy unit : unit_type.Unit.Unit) → unit_view copy ≡ unit_view unit
    → round_unit copy ≡ round_unit unit
unit_same copy unit is =
    ap (λ (v : UnitView). let u : RoundUnit = record { turns = v.turns; nodes = v.nodes } in u) is

module _ (plan : PlanParts) (bounds groups : List ℕ) (cut : IsCutAt plan bounds)
    (are : AreGroupsOf plan bounds groups) where
  abbrev last : ℕ
  last = last_of bounds

  abbrev is_in : (group node : ℕ) → Bool
  is_in group node = is_within (bound_in bounds group) (bound_in bounds (suc group)) node

  module _ (node : ℕ) (less : node < length (transformed_of plan).nodes) where
    group_is : slice_index groups node ≡ stage_within (bound_in bounds) (last_of bounds) node
    group_is = are.each node less

    pub group_within : slice_index groups node ≤ last_of bounds
    group_within = omega (arith, group_is, within_at_most (bound_in bounds) (last_of bounds) node)

    here : is_in (slice_index groups node) node ≡ true
    here = within_true (bound_in bounds (slice_index groups node))
        (bound_in bounds (suc (slice_index groups node))) node
        (own_from plan (bound_in bounds) (last_of bounds) cut.cut (slice_index groups node) node
        (sym group_is))
        (own_below plan (bound_in bounds) (last_of bounds) cut.cut (slice_index groups node) node
        less (sym group_is))

    elsewhere : (group : ℕ) → group ≤ last → group ≢ slice_index groups node
        → is_in group node ≡ false
    elsewhere group most apart = within_false (bound_in bounds group)
        (bound_in bounds (suc group)) node
        (is_outside plan (bound_in bounds) (last_of bounds) cut.cut group node most
        (λ is. apart (sym is ∙ sym group_is)))

  -- one unit more, copied into its group
  pub copy_parted : (round : List unit_type.Unit.Unit) (place : ℕ)
      (unit copy : unit_type.Unit.Unit) (before after : List (List RoundUnit))
      → place < length round → unit ≡ get_or round place unit
      → node_of unit < length (transformed_of plan).nodes → unit_view copy ≡ unit_view unit
      → AreParted (bound_in bounds) (last_of bounds) round place before
      → after ≡ set before (slice_index groups (node_of unit))
      (get_or before (slice_index groups (node_of unit)) [] ++ round_unit copy ∷ [])
      → AreParted (bound_in bounds) (last_of bounds) round (place + 1) after
  copy_parted round place unit copy before after less is there same parted added =
      let at : ℕ = slice_index groups (node_of unit) in
      unit_parted (bound_in bounds) (last_of bounds) round place unit less is at before after
      (group_within (node_of unit) there) (here (node_of unit) there)
      (elsewhere (node_of unit) there) parted
      (added ∙ ap (λ (u : RoundUnit). set before at (get_or before at [] ++ u ∷ []))
      (unit_same copy unit same))
