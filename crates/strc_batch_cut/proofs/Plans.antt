-- Cuts of a plan's round by weight, and by even shares, are of whole groups.
use Rattle.std.proofs.Common.{◌≡◌, sym, ap, ◌∙◌, subst, ℕ, ◌*◌, ◌<◌, ◌≤◌}
use Rattle.std.proofs.Common.{List, length, Option, arith}
use Rattle.std.specs.Prelude.{min, slice_index}
use Rattle.std.proofs.Math.Nat.{mul-div_cancel, min-le_left}
use Rattle.std.proofs.lemmas.Nat.{div_below, row_fits_turned}
use Rattle.std.proofs.lemmas.Bool.{cases_lt}
use mathlib.Core.Logic.{inl, inr}
use Rattle.strc_elab_dataflow.specs.FusedUnits.{RoundUnit}
use Rattle.strc_fuse.specs.Units.{round_units}
use Rattle.strc_stage_plan.specs.Bounds.{first_group, bound_at, group_starts}
use Rattle.strc_stage_plan.specs.Plans.{PlanParts, IsPlan, graph_of, transformed_of}
use Rattle.strc_stage_plan.proofs.Shares.{bound_within, bound_past}
use Rattle.strc_stage_steps.specs.Plans.{IsCut, plan_bound, plan_stages}
use Rattle.strc_stage_steps.proofs.Plans.{plan_bounds_are_a_cut}
use Rattle.strc_batch_cut.specs.Picks.{AreAmong}
use Rattle.strc_batch_cut.specs.Plans.{plan_groups, group_bound, weighed_bound}
use Rattle.strc_batch_cut.specs.Plans.{EvenBoundsAreAmong, WeighedBoundsAreACut}
use Rattle.strc_batch_cut.specs.Weighed.{weighed_group}
use Rattle.strc_batch_cut.proofs.Picks.{picked_bounds_are_a_cut}
use Rattle.strc_batch_cut.proofs.Weighed.{weighed_groups_are_picks}

min_same : (n : ℕ) → min n n ≡ n
min_same n = omega arith

module _ (plan : PlanParts) (is : IsPlan plan) (nodes : 0 < length (graph_of plan).nodes) where
  abbrev loops : List (Option ℕ)
  loops = (transformed_of plan).outer_loops

  abbrev units : List RoundUnit
  units = round_units plan.split.schedule.round

  abbrev starts : List ℕ
  starts = group_starts loops units

  abbrev pub groups : ℕ
  groups = plan_groups plan

  all_groups : plan_stages plan groups ≡ groups
  all_groups = min_same groups

  some_groups : 0 < groups
  some_groups =
      let one = (plan_bounds_are_a_cut plan 1 is (omega arith) nodes).0 in
      omega (arith, one, min-le_left groups 1)

  pub groups_cut : IsCut plan (group_bound plan) groups
  groups_cut = subst (IsCut plan (plan_bound plan groups)) all_groups
      (plan_bounds_are_a_cut plan groups is some_groups nodes).1

  module _ (workers : ℕ) (works : 0 < workers) where
    abbrev pub stages : ℕ
    stages = plan_stages plan workers

    pub staged : 0 < stages
    staged = (plan_bounds_are_a_cut plan workers is works nodes).0

    pub few : stages ≤ groups
    few = min-le_left groups workers

    pub weighed : (weights : List ℕ) → IsCut plan (group_bound plan) groups
        × IsCut plan (weighed_bound plan weights workers) stages
        × AreAmong (weighed_bound plan weights workers) stages (group_bound plan) groups
    weighed weights =
        let cut = picked_bounds_are_a_cut (transformed_of plan) units (group_bound plan) groups
        (weighed_group weights groups stages) stages groups_cut
        (weighed_groups_are_picks weights groups stages staged few) in
        (groups_cut, cut.0, cut.1)

    group_below : (stage : ℕ) → stage < stages → first_group groups stages stage < groups
    group_below stage less = div_below (stage * groups) stages groups staged
        (omega (arith, staged, few, row_fits_turned stage groups groups stages less (omega arith)))

    own_group : (group : ℕ) → first_group groups groups group ≡ group
    own_group group = mul-div_cancel group some_groups

    begins : (group : ℕ) → group < groups → group_bound plan group ≡ slice_index starts group
    begins group less =
        ap (λ (n : ℕ). bound_at (length loops) starts n group) all_groups
        ∙ bound_within (length loops) starts groups group less
        ∙ ap (slice_index starts) (own_group group)

    pub even : AreAmong (plan_bound plan workers) stages (group_bound plan) groups
    even stage less = elim (cases_lt stage stages) [
      | inl before ↦ (
        first_group groups stages stage,
        omega (arith, group_below stage before),
        bound_within (length loops) starts stages stage before
            ∙ sym (begins (first_group groups stages stage) (group_below stage before)),
      )
      | inr past ↦ (
        groups,
        omega arith,
        ap (plan_bound plan workers) (let e : stage ≡ stages = omega (arith, less, past) in e)
            ∙ bound_past (length loops) starts stages
            ∙ sym (bound_past (length loops) starts groups)
            ∙ ap (λ (n : ℕ). bound_at (length loops) starts n groups) (sym all_groups),
      )
    ]

pub weighed_bounds_are_a_cut : WeighedBoundsAreACut
weighed_bounds_are_a_cut plan weights workers is works nodes =
    weighed plan is nodes workers works weights

pub even_bounds_are_among : EvenBoundsAreAmong
even_bounds_are_among plan workers is works nodes = even plan is nodes workers works
