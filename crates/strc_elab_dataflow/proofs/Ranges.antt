-- Ranges of node numbers are stages.
use Rattle.std.proofs.Common.{◌≡◌, refl, sym, subst, ℕ, zero, suc, ◌+◌, ◌-◌, ◌<◌, ◌≤◌}
use Rattle.std.proofs.Common.{Bool, true, false, cond, leb, List, [], ◌∷◌, arith, leb-true}
use Rattle.std.proofs.Common.{leb-false}
use mathlib.Core.Logic.{inl, inr}
use Rattle.std.proofs.lemmas.Bool.{cases_order, cases_lt}
use Rattle.strc_elab_dataflow.specs.Flat.{Origin, Origin.Nowhere, Origin.Input, Origin.Port}
use Rattle.strc_elab_dataflow.specs.Cut.{AllIn}
use Rattle.strc_elab_dataflow.specs.Staging.{in_stage, IsFromUpTo}
use Rattle.strc_elab_dataflow.specs.Ranges.{stage_within, AllWithin, IsBelow}
use Rattle.strc_elab_dataflow.specs.StageLaws.{RangesAreStages}
use Rattle.strc_elab_dataflow.proofs.Segments.{is_in}

module _ (bound : ℕ → ℕ) where
  pub within_at_most : (last v : ℕ) → stage_within bound last v ≤ last
  unfolding stage_within
  within_at_most zero v = omega arith
  within_at_most (suc a) v = by_test (leb (bound (suc a)) v) (within_at_most a v)
    where
      by_test : (test : Bool) → stage_within bound a v ≤ a
          → cond test (suc a) (stage_within bound a v) ≤ suc a
      by_test true less = omega arith
      by_test false less = omega (arith, less)

  -- A range that isn't the first begins at its nodes or below.
  pub within_from : (last v : ℕ) → 0 < stage_within bound last v
      → bound (stage_within bound last v) ≤ v
  unfolding stage_within
  within_from zero v more = absurd (omega arith)
  within_from (suc a) v more = by_test (leb (bound (suc a)) v) refl (within_from a v) more
    where
      by_test : (test : Bool) → leb (bound (suc a)) v ≡ test
          → (0 < stage_within bound a v → bound (stage_within bound a v) ≤ v)
          → 0 < cond test (suc a) (stage_within bound a v)
          → bound (cond test (suc a) (stage_within bound a v)) ≤ v
      by_test true e ih more = leb-true (bound (suc a)) v e
      by_test false e ih more = ih more

  -- The next range begins after its nodes.
  pub within_below : (last v : ℕ) → stage_within bound last v < last
      → v < bound (suc (stage_within bound last v))
  unfolding stage_within
  within_below zero v less = absurd (omega arith)
  within_below (suc a) v less = by_test (leb (bound (suc a)) v) refl (within_at_most a v)
      (within_below a v) less
    where
      by_test : (test : Bool) → leb (bound (suc a)) v ≡ test → stage_within bound a v ≤ a
          → (stage_within bound a v < a → v < bound (suc (stage_within bound a v)))
          → cond test (suc a) (stage_within bound a v) < suc a
          → v < bound (suc (cond test (suc a) (stage_within bound a v)))
      by_test true e most ih less = absurd (omega arith)
      by_test false e most ih less = elim (cases_order (stage_within bound a v) a) [
        | inl same ↦ subst (λ (n : ℕ). v < bound (suc n)) (sym same)
            (omega (arith, leb-false (bound (suc a)) v e))
        | inr other ↦ elim other [ inl under ↦ ih under | inr over ↦ absurd (omega arith) ]
      ]

  module _ (top : ℕ) (rising : (a : ℕ) → a < top → bound a ≤ bound (suc a)) where
    bounds_rise : (a more : ℕ) → a + more ≤ top → bound a ≤ bound (a + more)
    bounds_rise a zero less = let e : a ≡ a + 0 = omega arith in
        subst (λ (n : ℕ). bound a ≤ bound n) e (omega arith)
    bounds_rise a (suc more) less =
        let e : suc (a + more) ≡ a + suc more = omega arith in
        subst (λ (n : ℕ). bound a ≤ bound n) e
        (omega (arith, bounds_rise a more (omega arith), rising (a + more) (omega arith)))

    pub bounds_from : (a b : ℕ) → a ≤ b → b ≤ top → bound a ≤ bound b
    bounds_from a b less within = let e : a + (b - a) ≡ b = omega arith in
        subst (λ (n : ℕ). bound a ≤ bound n) e (bounds_rise a (b - a) (omega arith))

    -- A node from a range's bound on, and below the next, is in that range.
    within_is : (a v : ℕ) → a ≤ top → bound a ≤ v → (a < top → v < bound (suc a))
        → stage_within bound top v ≡ a
    within_is a v within from below = elim (cases_order (stage_within bound top v) a) [
      | inl same ↦ same
      | inr other ↦ elim other [
        | inl under ↦ absurd (omega (
          arith,
          within_below top v (omega arith),
          bounds_from (suc (stage_within bound top v)) a (omega arith) within,
        ))
        | inr over ↦ absurd (omega (
          arith,
          within_at_most top v,
          below (omega (arith, within_at_most top v)),
          within_from top v (omega arith),
          bounds_from (suc a) (stage_within bound top v) (omega arith) (within_at_most top v),
        ))
      ]
    ]

    -- A node below a range's bound is in an earlier range.
    within_before : (a v : ℕ) → a < top → v < bound (suc a) → stage_within bound top v ≤ a
    within_before a v less below = elim (cases_lt a (stage_within bound top v)) [
      | inl more ↦ absurd (omega (
        arith,
        within_from top v (omega arith),
        bounds_from (suc a) (stage_within bound top v) more (within_at_most top v),
      ))
      | inr most ↦ most
    ]

own_in : (bound : ℕ → ℕ) (last : ℕ) → ((a : ℕ) → a < last → bound a ≤ bound (suc a)) → (a : ℕ)
    → a ≤ last → (order : List ℕ)
    → AllWithin (bound a) (λ node. a < last → node < bound (suc a)) order
    → AllIn (in_stage (stage_within bound last) a) order
own_in bound last rising a less [] all = tt
own_in bound last rising a less (node ∷ order) all = (
  is_in (stage_within bound last) a node (within_is bound last rising a node less all.0 all.1),
  own_in bound last rising a less order all.2,
)

-- Ranges of node numbers.
pub ranges_are_stages : {Code : Type 0} → RangesAreStages Code
ranges_are_stages graph bound segment last round_order is = record {
  own = λ a less. own_in bound last is.rising a (omega arith) (segment a) (is.own a (omega arith));
  order = is.order;
  within = λ v. omega (arith, within_at_most bound last v);
  backward = backward_at;
}
  where
    up_to : (v : ℕ) → stage_within bound last v < last → (origin : Origin)
        → IsBelow (bound (suc (stage_within bound last v))) origin
        → IsFromUpTo (stage_within bound last) (stage_within bound last v) origin
    up_to v less Nowhere below = tt
    up_to v less Input below = tt
    up_to v less (Port u q) below =
        within_before bound last is.rising (stage_within bound last v) u less below

    at_last : (v : ℕ) → last ≤ stage_within bound last v → (origin : Origin)
        → IsFromUpTo (stage_within bound last) (stage_within bound last v) origin
    at_last v more Nowhere = tt
    at_last v more Input = tt
    at_last v more (Port u q) = omega (arith, within_at_most bound last u)

    backward_at : (v port : ℕ) → IsFromUpTo (stage_within bound last)
        (stage_within bound last v) (graph.source v port).origin
    backward_at v port = elim (cases_lt (stage_within bound last v) last) [
      | inl less ↦ up_to v less (graph.source v port).origin
          (is.forward (stage_within bound last v) v port less (within_below bound last v less))
      | inr more ↦ at_last v more (graph.source v port).origin
    ]
