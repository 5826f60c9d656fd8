-- Nodes of one group are nodes of one stage, where stages are whole groups.
use Rattle.std.proofs.Common.{◌≡◌, subst, ℕ, suc, ◌<◌, ◌≤◌, arith, inl, inr}
use Rattle.std.proofs.lemmas.Bool.{cases_lt, cases_order}
use Rattle.strc_elab_dataflow.specs.Ranges.{stage_within}
use Rattle.strc_elab_dataflow.proofs.Ranges.{bounds_from, within_at_most, within_below, within_from}
use Rattle.strc_batch_cut.specs.Picks.{AreAmong}

module _ (wide bound : ℕ → ℕ) (wide_last last : ℕ)
    (wide_rising : (stage : ℕ) → stage < suc wide_last → wide stage ≤ wide (suc stage))
    (rising : (group : ℕ) → group < suc last → bound group ≤ bound (suc group))
    (first : bound 0 ≡ 0) (among : AreAmong wide (suc wide_last) bound (suc last)) where
  abbrev stage_of : ℕ → ℕ
  stage_of = stage_within wide wide_last

  abbrev group_of : ℕ → ℕ
  group_of = stage_within bound last

  -- a node before a group's bound is of an earlier group
  before_bound : (node at : ℕ) → at ≤ suc last → node < bound at → group_of node < at
  before_bound node at there below = elim (cases_lt (group_of node) at) [
    | inl less ↦ less
    | inr more ↦ elim (cases_lt 0 (group_of node)) [
      | inl some ↦ absurd (omega (
        arith,
        below,
        within_from bound last node some,
        bounds_from bound (suc last) rising at (group_of node) more
            (omega (arith, within_at_most bound last node)),
      ))
      | inr none ↦
          let e : at ≡ 0 = omega (arith, more, none) in
          absurd (omega (arith, subst (λ (n : ℕ). node < bound n) e below, first))
    ]
  ]

  -- and one from there on is none of it
  from_bound : (node at : ℕ) → at ≤ suc last → bound at ≤ node → node < bound (suc last)
      → at ≤ group_of node
  from_bound node at there from within = elim (cases_lt (group_of node) at) [
    | inr more ↦ more
    | inl less ↦ elim (cases_lt (group_of node) last) [
      | inl inner ↦ absurd (omega (
        arith,
        from,
        within_below bound last node inner,
        bounds_from bound (suc last) rising (suc (group_of node)) at less there,
      ))
      | inr outer ↦
          let e : at ≡ suc last = omega (arith, less, outer, there) in
          absurd (omega (arith, subst (λ (n : ℕ). bound n ≤ node) e from, within))
    ]
  ]

  earlier : (node other : ℕ) → other < bound (suc last) → stage_of node < stage_of other
      → group_of node < group_of other
  earlier node other within less =
      let most = within_at_most wide wide_last other in
      let (at, there, is) = among (stage_of other) (omega (arith, most)) in
      let below : node < bound at = omega (
        arith,
        within_below wide wide_last node (omega (arith, less, most)),
        bounds_from wide (suc wide_last) wide_rising (suc (stage_of node)) (stage_of other) less
            (omega (arith, most)),
        is,
      ) in
      let from : bound at ≤ other =
      omega (arith, within_from wide wide_last other (omega (arith, less)), is) in
      omega (arith, before_bound node at there below, from_bound other at there from within)

  pub together : (node other : ℕ) → node < bound (suc last) → other < bound (suc last)
      → group_of node ≡ group_of other → stage_of node ≡ stage_of other
  together node other one within same = elim (cases_order (stage_of node) (stage_of other)) [
    | inl e ↦ e
    | inr apart ↦ elim apart [
      | inl less ↦ absurd (omega (arith, earlier node other within less, same))
      | inr more ↦ absurd (omega (arith, earlier other node one more, same))
    ]
  ]
