-- The work of a stage's nodes is the weight of its groups.
use Rattle.std.proofs.Common.{◌≡◌, sym, ap, ◌∙◌, subst, ℕ, zero, suc, ◌+◌, ◌-◌, ◌*◌, ◌<◌, ◌≤◌}
use Rattle.std.proofs.Common.{List, length, map, get_or, arith}
use Rattle.std.specs.Prelude.{sum}
use Rattle.std.specs.List.{range_with_len}
use Rattle.std.proofs.lemmas.List.FromFn.{get_or-map-range_with_len, length-map-range_with_len}
use Rattle.std.proofs.lemmas.List.Sums.{sum_by-cons}
use Rattle.strc_elab_dataflow.proofs.Ranges.{bounds_from}
use Rattle.strc_stage_plan.specs.Plans.{PlanParts, IsPlan, graph_of, transformed_of}
use Rattle.strc_stage_steps.specs.Plans.{IsCut, plan_stages}
use Rattle.strc_batch_cut.specs.Plans.{plan_groups, group_bound}
use Rattle.strc_batch_cut.specs.Weighed.{weighed_group, weight_between}
use Rattle.strc_batch_cut.specs.Work.{work_between, group_weights, plan_weights, work_bound}
use Rattle.strc_batch_cut.specs.Work.{StagesHaveEvenWork}
use Rattle.strc_batch_cut.proofs.Even.{total_before, total_all, between_is}
use Rattle.strc_batch_cut.proofs.Even.{weighed_stages_are_even}
use Rattle.strc_batch_cut.proofs.Picks.{within_groups}
use Rattle.strc_batch_cut.proofs.Plans.{groups_cut, staged, few}
use Rattle.strc_batch_cut.proofs.Weighed.{is_pick, rises}

module _ (work : (node : ℕ) → ℕ) where
  -- the work of the nodes before one
  before : ℕ → ℕ
  before zero = 0
  before (suc node) = before node + work node

  one_more : (node : ℕ) → before (node + 1) ≡ before node + work node
  unfolding before
  one_more node = ap before (let e : node + 1 ≡ suc node = omega arith in e)

  range_is : (many first : ℕ)
      → before first + sum (map work (range_with_len first many)) ≡ before (first + many)
  range_is zero first =
      let e : first ≡ first + 0 = omega arith in omega (arith, ap before e)
  range_is (suc many) first =
      let e : (first + 1) + many ≡ first + suc many = omega arith in
      omega (
        arith,
        sum_by-cons (λ x. x) (work first) (map work (range_with_len (first + 1) many)),
        range_is many (first + 1),
        one_more first,
        ap before e,
      )

  between_nodes : (first next : ℕ) → first ≤ next
      → before first + work_between work first next ≡ before next
  between_nodes first next less =
      range_is (next - first) first
      ∙ ap before (let e : first + (next - first) ≡ next = omega (arith, less) in e)

  module _ (bound : (group : ℕ) → ℕ) (groups : ℕ)
      (rising : (group : ℕ) → group < groups → bound group ≤ bound (suc group)) where
    abbrev weight : (group : ℕ) → ℕ
    weight group = work_between work (bound group) (bound (suc group))

    -- the weight before a group is the work before its first node
    weights_from : (many first k : ℕ) → first + many ≤ groups → k ≤ many
        → before (bound first) + total_before (map weight (range_with_len first many)) k
        ≡ before (bound (first + k))
    unfolding total_before
    weights_from zero first zero within less =
        let e : first ≡ first + 0 = omega arith in
        omega (arith, ap (λ (n : ℕ). before (bound n)) e)
    weights_from zero first (suc k) within less = absurd (omega (arith, less))
    weights_from (suc many) first zero within less =
        let e : first ≡ first + 0 = omega arith in
        omega (arith, ap (λ (n : ℕ). before (bound n)) e)
    weights_from (suc many) first (suc k) within less =
        let one : first + 1 ≡ suc first = omega arith in
        let e : (first + 1) + k ≡ first + suc k = omega arith in
        omega (
          arith,
          between_nodes (bound first) (bound (suc first)) (rising first (omega (arith, within))),
          ap (λ (n : ℕ). before (bound n)) one,
          weights_from many (first + 1) k (omega (arith, within)) (omega (arith, less)),
          ap (λ (n : ℕ). before (bound n)) e,
        )

    abbrev weights : List ℕ
    weights = group_weights work bound groups

    weight_before : bound 0 ≡ 0 → (k : ℕ) → k ≤ groups
        → total_before weights k ≡ before (bound k)
    unfolding before
    weight_before first k less =
        let none : before (bound 0) ≡ 0 = ap before first in
        let e : 0 + k ≡ k = omega arith in
        omega (
          arith,
          none,
          weights_from groups 0 k (omega arith) less,
          ap (λ (n : ℕ). before (bound n)) e,
        )

    pub many : length weights ≡ groups
    many = length-map-range_with_len weight 0 groups

    pub all_work : bound 0 ≡ 0 → sum weights ≡ work_between work 0 (bound groups)
    unfolding before
    all_work first = omega (
      arith,
      total_all weights,
      ap (total_before weights) many,
      weight_before first groups (omega arith),
      between_nodes 0 (bound groups) (omega arith),
    )

    pub stage_work : bound 0 ≡ 0 → (a c : ℕ) → a ≤ c → c ≤ groups
        → weight_between weights a c ≡ work_between work (bound a) (bound c)
    stage_work first a c less within = omega (
      arith,
      between_is weights a c less,
      weight_before first a (omega (arith, less, within)),
      weight_before first c within,
      between_nodes (bound a) (bound c) (bounds_from bound groups rising a c less within),
    )

    pub light : (most : ℕ) → ((group : ℕ) → group < groups → weight group ≤ most)
        → (k d : ℕ) → k < length weights → get_or weights k d ≤ most
    light most each k d inside =
        let within : k < groups = omega (arith, inside, many) in
        subst (λ (n : ℕ). n ≤ most)
        (sym (get_or-map-range_with_len weight 0 groups k k d within (omega arith)))
        (each k within)

module _ (plan : PlanParts) (work : (node : ℕ) → ℕ) (workers most stage : ℕ) (is : IsPlan plan)
    (works : 0 < workers) (nodes : 0 < length (graph_of plan).nodes)
    (each : (group : ℕ) → group < plan_groups plan
    → work_between work (group_bound plan group) (group_bound plan (suc group)) ≤ most)
    (less : stage < plan_stages plan workers) where
  abbrev groups : ℕ
  groups = plan_groups plan

  abbrev stages : ℕ
  stages = plan_stages plan workers

  abbrev its : List ℕ
  its = plan_weights plan work

  cut : IsCut plan (group_bound plan) groups
  cut = groups_cut plan is nodes

  abbrev pick : (stage : ℕ) → ℕ
  pick = weighed_group its groups stages

  below : pick (suc stage) ≤ groups
  below = within_groups pick stages groups
      (is_pick its groups stages (staged plan is nodes workers works)
      (few plan is nodes workers works)) (suc stage) less

  picks_rise : pick stage < pick (suc stage)
  picks_rise = rises its groups stages (staged plan is nodes workers works)
      (few plan is nodes workers works) stage less

  pub even_work : stages * work_between work (work_bound plan work workers stage)
      (work_bound plan work workers (suc stage))
      ≤ work_between work 0 (length (transformed_of plan).nodes) + stages * most
  even_work =
      let by_weight : stages * weight_between its (pick stage) (pick (suc stage))
      ≤ sum its + stages * most
      = weighed_stages_are_even its groups stages most stage
      (many work (group_bound plan) groups cut.rising) (few plan is nodes workers works)
      (light work (group_bound plan) groups cut.rising most each) less in
      let own = stage_work work (group_bound plan) groups cut.rising cut.first (pick stage)
      (pick (suc stage)) (omega (arith, picks_rise)) below in
      let all = all_work work (group_bound plan) groups cut.rising cut.first in
      omega (
        arith,
        by_weight,
        ap (λ (n : ℕ). stages * n) own,
        all,
        ap (work_between work 0) cut.all,
      )

pub stages_have_even_work : StagesHaveEvenWork
stages_have_even_work plan work workers most stage is works nodes each less =
    even_work plan work workers most stage is works nodes each less
