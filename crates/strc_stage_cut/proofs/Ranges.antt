-- Stages that are ranges between bounds.
use Rattle.std.proofs.Common.{◌≡◌, refl, sym, ap, ◌∙◌, subst, ℕ, zero, suc, ◌+◌, ◌<◌, ◌≤◌}
use Rattle.std.proofs.Common.{Bool, true, false, cond, leb, arith, inl, inr, length, true≢false}
use Rattle.std.specs.Prelude.{eqb}
use Rattle.std.proofs.lemmas.Bool.{cases_order, cases_lt, eq-eqb, eqb-true, le-leb, lt-leb}
use Rattle.strc_stage_plan.specs.Plans.{PlanParts, transformed_of}
use Rattle.strc_sched_rings.specs.Parts.{IsOutside, is_within}
use Rattle.strc_sched_rings.proofs.PartLists.{within_true, within_false}
use Rattle.strc_stage_steps.specs.Plans.{IsCut}
use Rattle.strc_elab_dataflow.specs.Ranges.{stage_within}
use Rattle.strc_elab_dataflow.proofs.Ranges.{bounds_from, within_at_most, within_from, within_below}

module _ (bound : ℕ → ℕ) where
  -- one stage after another
  pub stage_first : (node : ℕ) → 0 ≡ stage_within bound 0 node
  unfolding stage_within
  stage_first node = refl

  stage_next : (stage node : ℕ) → stage_within bound (stage + 1) node
      ≡ cond (leb (bound (stage + 1)) node) (stage + 1) (stage_within bound stage node)
  unfolding stage_within
  stage_next stage node =
      let e : stage + 1 ≡ suc stage = omega arith in
      ap (λ n. stage_within bound n node) e
      ∙ ap (λ n. cond (leb (bound n) node) n (stage_within bound stage node)) (sym e)

  pub stage_here : (stage node : ℕ) → bound (stage + 1) ≤ node
      → stage + 1 ≡ stage_within bound (stage + 1) node
  stage_here stage node from = sym (stage_next stage node
      ∙ ap (λ t. cond t (stage + 1) (stage_within bound stage node))
      (le-leb (bound (stage + 1)) node from))

  pub stage_before : (stage node found : ℕ) → node < bound (stage + 1)
      → found ≡ stage_within bound stage node → found ≡ stage_within bound (stage + 1) node
  stage_before stage node found below is = is ∙ sym (stage_next stage node
      ∙ ap (λ t. cond t (stage + 1) (stage_within bound stage node))
      (lt-leb (bound (stage + 1)) node below))

-- which nodes a stage has
module _ (plan : PlanParts) (bound : ℕ → ℕ) (last : ℕ) (cut : IsCut plan bound (suc last)) where
  pub own_from : (stage node : ℕ) → stage_within bound last node ≡ stage → bound stage ≤ node
  own_from zero node is = omega (arith, cut.first)
  own_from (suc stage) node is =
      subst (λ (n : ℕ). bound n ≤ node) is (within_from bound last node (omega (arith, is)))

  pub own_below : (stage node : ℕ) → node < length (transformed_of plan).nodes
      → stage_within bound last node ≡ stage → node < bound (suc stage)
  own_below stage node less is = elim (cases_lt stage last) [
    | inl below ↦ subst (λ (n : ℕ). node < bound (suc n)) is
        (within_below bound last node (omega (arith, is, below)))
    | inr past ↦
        let e : suc stage ≡ suc last = omega (arith, is, past, within_at_most bound last node) in
        subst (λ (n : ℕ). node < bound n) (sym e) (omega (arith, less, cut.all))
  ]

  pub is_own : (stage node : ℕ) → stage ≤ last → bound stage ≤ node → node < bound (suc stage)
      → stage_within bound last node ≡ stage
  is_own stage node most from below =
      let own = stage_within bound last node in
      elim (cases_order own stage) [
        | inl same ↦ same
        | inr other ↦ elim other [
          | inl under ↦ absurd (omega (
            arith,
            within_below bound last node (omega (arith, under, most)),
            bounds_from bound (suc last) cut.rising (suc own) stage (omega (arith, under))
                (omega (arith, most)),
            from,
          ))
          | inr over ↦ absurd (omega (
            arith,
            within_at_most bound last node,
            within_from bound last node (omega (arith, over)),
            bounds_from bound (suc last) cut.rising (suc stage) own (omega (arith, over))
                (omega (arith, within_at_most bound last node)),
            below,
          ))
        ]
      ]

  -- a node that a stage doesn't have is outside
  pub is_outside : (stage node : ℕ) → stage ≤ last
      → (stage_within bound last node ≡ stage → ⊥)
      → IsOutside (bound stage) (bound (suc stage)) node
  is_outside stage node most other = elim (cases_lt node (bound stage)) [
    | inl below ↦ inl below
    | inr from ↦ elim (cases_lt node (bound (suc stage))) [
      | inl less ↦ absurd (other (is_own stage node most from less))
      | inr past ↦ inr past
    ]
  ]

  -- the two tests agree on nodes
  pub same_test : (stage node : ℕ) → stage ≤ last → node < length (transformed_of plan).nodes
      → eqb (stage_within bound last node) stage
      ≡ is_within (bound stage) (bound (suc stage)) node
  same_test stage node most less = by_test (eqb (stage_within bound last node) stage) refl
    where
      by_test : (test : Bool) → eqb (stage_within bound last node) stage ≡ test
          → test ≡ is_within (bound stage) (bound (suc stage)) node
      by_test true e =
          let is = eqb-true (stage_within bound last node) stage e in
          sym (within_true (bound stage) (bound (suc stage)) node (own_from stage node is)
          (own_below stage node less is))
      by_test false e =
          sym (within_false (bound stage) (bound (suc stage)) node (is_outside stage node most
          (λ is. absurd (true≢false (sym (eq-eqb (stage_within bound last node) stage is) ∙ e)))))
