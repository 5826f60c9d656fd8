-- No bound that stages can have is finer than those of a plan's groups: each is one of these.
use Rattle.std.proofs.Common.{◌≡◌, refl, sym, ap, ◌∙◌, subst, ℕ, zero, suc, ◌+◌, ◌-◌, ◌<◌, ◌≤◌}
use Rattle.std.proofs.Common.{◌^◌, arith, Bool, true, false, cond, List, [], ◌∷◌, length, get_or}
use Rattle.std.proofs.Common.{All, Option, Some, None, ◌⊎◌, inl, inr}
use Rattle.std.specs.Prelude.{filter, ◌&&◌, ◌||◌, nat_le, nat_lt, not, slice_index}
use Rattle.std.specs.List.{list_any, range_with_len}
use Rattle.std.proofs.Math.Nat.{mul-div_cancel}
use Rattle.std.proofs.lemmas.Bool.{cases_eq, cases_lt, le-leb, le-ltb, lt-leb}
use Rattle.std.proofs.lemmas.List.Filters.{length-filter_both}
use Rattle.std.proofs.lemmas.List.FromFn.{length-range_with_len}
use Rattle.std.proofs.lemmas.Option.{slice_get-get_or}
use Rattle.strc_elab_dataflow.specs.FusedUnits.{RoundUnit}
use Rattle.strc_elab_dataflow.proofs.Ranges.{bounds_from}
use Rattle.strc_elab_graph.specs.Graphs.{Graph, IsGraph}
use Rattle.strc_fuse.specs.Units.{round_units}
use Rattle.strc_fiss.specs.Numbers.{node_limit}
use Rattle.strc_fiss.specs.Splitting.{new_code}
use Rattle.strc_fiss.proofs.Lookup.{part_many}
use Rattle.strc_stage_plan.specs.Bounds.{begins, begins_at, bound_at, group_starts, is_parted}
use Rattle.strc_stage_plan.specs.Bounds.{parts_unit, stage_count}
use Rattle.strc_stage_plan.specs.Cuts.{BeginsGroup, IsBetweenGroups, IsBetweenUnits}
use Rattle.strc_stage_plan.specs.Plans.{IsPlan, PlanParts, graph_of, transformed_of}
use Rattle.strc_stage_plan.proofs.Beginnings.{AreNumbered, loops_numbered}
use Rattle.strc_stage_plan.proofs.Forward.{loops_many}
use Rattle.strc_stage_plan.proofs.Shares.{bound_within}
use Rattle.strc_stage_steps.specs.Plans.{IsCut}
use Rattle.strc_stage_steps.proofs.NewLoops.{new_numbered}
use Rattle.strc_stage_steps.proofs.Plans.{graph_is, share}
use Rattle.strc_stage_cut.proofs.Cuts.{bound_is, bounds_cut, stages_are}
use Rattle.strc_batch_cut.specs.Picks.{AreAmong}
use Rattle.strc_batch.specs.Sizes.{group_bound, last_group}

node_limit_is : node_limit ≡ 4096
node_limit_is = refl

-- ---- numbers that a test keeps

record IsAt (numbers : List ℕ) (number : ℕ) : Type 0 where
  place : ℕ
  within : place < length numbers
  is : get_or numbers place 0 ≡ number

kept_first : (keeps : Bool) (first : ℕ) (rest : List ℕ) → keeps ≡ true
    → IsAt (cond keeps (first ∷ rest) rest) first
kept_first true first rest same = record { place = 0; within = omega arith; is = refl }
kept_first false first rest same = cc

kept_later : (keeps : Bool) (first number : ℕ) (rest : List ℕ) → IsAt rest number
    → IsAt (cond keeps (first ∷ rest) rest) number
kept_later true first number rest at =
    record { place = suc at.place; within = omega (arith, at.within); is = at.is }
kept_later false first number rest at = at

kept_at : (test : ℕ → Bool) (first count number : ℕ) → first ≤ number → number < first + count
    → test number ≡ true → IsAt (filter test (range_with_len first count)) number
kept_at test first zero number from below passes = absurd (omega (arith, from, below))
kept_at test first (suc count) number from below passes = elim (cases_eq first number) [
  | inl same ↦ subst (IsAt (filter test (range_with_len first (suc count)))) same
      (kept_first (test first) first (filter test (range_with_len (first + 1) count))
      (ap test same ∙ passes))
  | inr other ↦
      let more : first + 1 ≤ number = elim (cases_lt first number) [
        | inl less ↦ omega (arith, less)
        | inr past ↦ absurd (other (omega (arith, from, past)))
      ] in
      kept_later (test first) first number (filter test (range_with_len (first + 1) count))
      (kept_at test (first + 1) count number more (omega (arith, below)) passes)
]

-- ---- a number between groups and units is where one begins

begins_of : (number : ℕ) (loop : Option ℕ)
    → ((joiner : ℕ) → loop ≡ Some joiner → number ≤ joiner) → begins loop number ≡ true
begins_of number None before = refl
begins_of number (Some joiner) before = le-leb number joiner (before joiner refl)

none_from : (number : ℕ) (nodes : List ℕ) → All (λ node. node < number) nodes
    → list_any (λ node. nat_le number node) nodes ≡ false
none_from number [] below = refl
none_from number (node ∷ nodes) below =
    ap (λ (t : Bool). t || list_any (λ node. nat_le number node) nodes)
    (lt-leb number node (below 0 0 (omega arith)))
    ∙ none_from number nodes (λ k d less. below (suc k) d (omega (arith, less)))

none_below : (number : ℕ) (nodes : List ℕ) → All (λ node. number ≤ node) nodes
    → list_any (λ node. nat_lt node number) nodes ≡ false
none_below number [] from = refl
none_below number (node ∷ nodes) from =
    ap (λ (t : Bool). t || list_any (λ node. nat_lt node number) nodes)
    (le-ltb node number (from 0 0 (omega arith)))
    ∙ none_below number nodes (λ k d less. from (suc k) d (omega (arith, less)))

and_none : (one : Bool) → one && false ≡ false
and_none true = refl
and_none false = refl

module _ (number : ℕ) where
  whole : (unit : RoundUnit)
      → All (λ node. node < number) unit.nodes ⊎ All (λ node. number ≤ node) unit.nodes
      → is_parted number unit ≡ false
  whole unit (inl below) =
      ap (λ (t : Bool). list_any (λ node. nat_lt node number) unit.nodes && t)
      (none_from number unit.nodes below)
      ∙ and_none (list_any (λ node. nat_lt node number) unit.nodes)
  whole unit (inr from) =
      ap (λ (t : Bool). t && list_any (λ node. nat_le number node) unit.nodes)
      (none_below number unit.nodes from)

  all_whole : (order : List RoundUnit) → IsBetweenUnits order number
      → parts_unit order number ≡ false
  all_whole [] between = refl
  all_whole (unit ∷ order) between =
      ap (λ (t : Bool). t || parts_unit order number) (whole unit (between 0 unit (omega arith)))
      ∙ all_whole order (λ k d less. between (suc k) d (omega (arith, less)))

both_pass : (one other : Bool) → one ≡ true → other ≡ false → one && not other ≡ true
both_pass true false a b = refl
both_pass true true a b = cc
both_pass false other a b = cc

module _ (loops : List (Option ℕ)) (order : List RoundUnit) (number : ℕ)
    (numbered : AreNumbered 0 loops) (within : number < length loops) where
  begins_group : IsBetweenGroups loops number → BeginsGroup loops number
  begins_group between loop here = elim (cases_lt loop number) [
    | inl before ↦ absurd (between loop number loop before (omega arith)
        (numbered.inside number loop here loop (omega arith) (omega (arith, before))) here)
    | inr past ↦ past
  ]

  begins_here : IsBetweenGroups loops number → IsBetweenUnits order number
      → begins_at loops order number ≡ true
  begins_here between units =
      both_pass (begins (get_or loops number None) number) (parts_unit order number)
      (begins_of number (get_or loops number None) (λ joiner same. begins_group between joiner
      (slice_get-get_or loops number None within ∙ ap Some same)))
      (all_whole number order units)

-- ---- a plan's groups

module _ (plan : PlanParts) (is : IsPlan plan) (graph : IsGraph (transformed_of plan))
    (nodes : 0 < length (graph_of plan).nodes) where
  abbrev most : ℕ
  most = 2 ^ 32 - 1

  abbrev loops : List (Option ℕ)
  loops = (transformed_of plan).outer_loops

  abbrev units : List RoundUnit
  units = round_units plan.split.schedule.round

  abbrev starts : List ℕ
  starts = group_starts loops units

  abbrev groups : ℕ
  groups = length (group_starts loops units)

  pub group_cut : IsCut plan (group_bound plan) (suc (last_group plan))
  group_cut = bounds_cut plan most is (omega arith) nodes

  numbered : AreNumbered 0 loops
  numbered = subst (λ (g : Graph). AreNumbered 0 g.outer_loops) (sym (graph_is plan is))
      (new_numbered (share plan is) (graph_of plan).outer_loops (length (graph_of plan).nodes)
      (loops_numbered is.whole.stream (graph_of plan).outer_loops is.whole.loops)
      (loops_many is.whole.stream (graph_of plan) is.whole.closed.typed is.whole.program
      is.whole.loops))

  -- there are fewer groups than 32 bits count, so each has a stage of its own
  nodes_few : length (transformed_of plan).nodes ≤ node_limit
  nodes_few = omega (
    arith,
    ap (λ g. length g.nodes) (graph_is plan is),
    part_many (share plan is) (new_code (share plan is) (graph_of plan).nodes)
        (length (graph_of plan).nodes),
    is.transformation.transformed.fission.few,
  )

  groups_few : groups ≤ node_limit
  groups_few = omega (
    arith,
    length-filter_both (begins_at loops units) (λ n. not (begins_at loops units n)) (λ n. refl)
        (range_with_len 0 (length loops)),
    length-range_with_len 0 (length loops),
    graph.outer_loops,
    nodes_few,
  )

  each_alone : stage_count loops units most ≡ groups
  each_alone = omega (arith, groups_few, node_limit_is)

  all_groups : suc (last_group plan) ≡ groups
  all_groups = stages_are plan most is (omega arith) nodes ∙ each_alone

  starts_are : (group : ℕ) → group < groups → group_bound plan group ≡ slice_index starts group
  starts_are group less =
      bound_is plan most is (omega arith) nodes group (omega (arith, less, each_alone))
      ∙ ap (λ (n : ℕ). bound_at (length loops) starts n group) each_alone
      ∙ bound_within (length loops) starts groups group less
      ∙ ap (slice_index starts) (mul-div_cancel group (omega (arith, less)))

  -- so whatever cut has the stages, its bounds are the groups'
  pub cut_among : (wide : ℕ → ℕ) (stages : ℕ) → IsCut plan wide stages
      → AreAmong wide stages (group_bound plan) (suc (last_group plan))
  cut_among wide stages cut stage less = elim (cases_lt (wide stage) (length loops)) [
    | inl inside ↦
        let at = kept_at (begins_at loops units) 0 (length loops) (wide stage) (omega arith)
        (omega (arith, inside))
        (begins_here loops units (wide stage) numbered inside (cut.between stage less)
        (cut.units stage less)) in
        let same = sym (starts_are at.place at.within ∙ at.is) in
        (at.place, omega (arith, at.within, all_groups), same)
    | inr past ↦ (
      suc (last_group plan),
      omega arith,
      omega (
        arith,
        past,
        graph.outer_loops,
        bounds_from wide stages cut.rising stage stages less (omega arith),
        cut.all,
        group_cut.all,
      ),
    )
  ]
