-- The segments of a staged round: those before a stage are over the nodes of earlier stages, which
-- are a closed part.
use Rattle.std.proofs.Common.{◌≡◌, sym, ap, ◌∙◌, ℕ, zero, suc, ◌+◌, ◌-◌, ◌<◌, ◌≤◌}
use Rattle.std.proofs.Common.{true, false, List, ◌++◌, arith}
use Rattle.std.proofs.Common.{eqb-true, eq-eqb, ltb-true, append-nil}
use mathlib.Core.Path.{fun_ext}
use mathlib.Core.Logic.{inl, inr, ◌⊎◌}
use Rattle.std.proofs.lemmas.Bool.{ltb-false, lt-ltb, le-ltb, cases_order, ne_eqb}
use Rattle.strc_elab_dataflow.specs.Flat.{Origin, Origin.Nowhere, Origin.Input, Origin.Port, Graph}
use Rattle.strc_elab_dataflow.specs.Order.{firing_count}
use Rattle.strc_elab_dataflow.specs.Cut.{cut, kept, IsFrom, IsClosed, AllIn}
use Rattle.strc_elab_dataflow.specs.Staging.{joined, before, in_stage, IsFromUpTo, IsStaged}
use Rattle.strc_elab_dataflow.proofs.Cut.{kept_count}
use Rattle.strc_elab_dataflow.proofs.Orders.{kept_append, kept_all, kept_none, all_append}
use Rattle.strc_elab_dataflow.proofs.Orders.{all_mapped}

module _ (stage_of : ℕ → ℕ) where
  pub before_less : (b v : ℕ) → before stage_of b v ≡ true → stage_of v < b
  unfolding before
  before_less b v e = ltb-true (stage_of v) b e

  pub less_before : (b v : ℕ) → stage_of v < b → before stage_of b v ≡ true
  unfolding before
  less_before b v less = lt-ltb (stage_of v) b less

  pub not_before : (b v : ℕ) → b ≤ stage_of v → before stage_of b v ≡ false
  unfolding before
  not_before b v more = le-ltb (stage_of v) b more

  pub before_not : (b v : ℕ) → before stage_of b v ≡ false → b ≤ stage_of v
  unfolding before
  before_not b v e = ltb-false (stage_of v) b e

  pub in_is : (a v : ℕ) → in_stage stage_of a v ≡ true → stage_of v ≡ a
  unfolding in_stage
  in_is a v e = eqb-true (stage_of v) a e

  pub is_in : (a v : ℕ) → stage_of v ≡ a → in_stage stage_of a v ≡ true
  unfolding in_stage
  is_in a v e = eq-eqb (stage_of v) a e

  pub not_in : (a v : ℕ) → (stage_of v ≡ a → ⊥) → in_stage stage_of a v ≡ false
  unfolding in_stage
  not_in a v differ = ne_eqb (stage_of v) a differ

  pub before_next : (a v : ℕ) → before stage_of a v ≡ true → before stage_of (suc a) v ≡ true
  before_next a v e = less_before (suc a) v (omega (arith, before_less a v e))

  pub in_next : (a v : ℕ) → in_stage stage_of a v ≡ true → before stage_of (suc a) v ≡ true
  in_next a v e = less_before (suc a) v (omega (arith, in_is a v e))

  pub in_not_before : (a v : ℕ) → in_stage stage_of a v ≡ true → before stage_of a v ≡ false
  in_not_before a v e = not_before a v (omega (arith, in_is a v e))

  -- A node of the stages up to one is in an earlier stage or in this one.
  pub which : (a v : ℕ) → before stage_of (suc a) v ≡ true
      → (before stage_of a v ≡ true) ⊎ (in_stage stage_of a v ≡ true)
  which a v e = elim (cases_order (stage_of v) a) [
    | inl same ↦ inr (is_in a v same)
    | inr other ↦ elim other [
      | inl less ↦ inl (less_before a v less)
      | inr more ↦ absurd (omega (arith, before_less (suc a) v e))
    ]
  ]

module _ {Code : Type 0} (graph : Graph Code) (stage_of : ℕ → ℕ) (segment : ℕ → List ℕ)
    (stages : ℕ) (round_order : List ℕ)
    (staged : IsStaged graph stage_of segment stages round_order) where
  -- The stages before one are closed.
  pub closed_before : (b : ℕ) → IsClosed graph (before stage_of b)
  closed_before b node port inside =
      by_origin (graph.source node port).origin (staged.backward node port)
    where
      by_origin : (origin : Origin) → IsFromUpTo stage_of (stage_of node) origin
          → IsFrom (before stage_of b) origin
      by_origin Nowhere up = tt
      by_origin Input up = tt
      by_origin (Port u q) up = less_before stage_of b u
          (omega (arith, up, before_less stage_of b node inside))

  pub joined_in : (b : ℕ) → b ≤ stages → AllIn (before stage_of b) (joined segment b)
  unfolding joined
  joined_in zero less = tt
  joined_in (suc b) less = all_append (before stage_of (suc b)) (joined segment b) (segment b)
      (all_mapped (before stage_of b) (before stage_of (suc b)) (before_next stage_of b)
      (joined segment b) (joined_in b (omega arith)))
      (all_mapped (in_stage stage_of b) (before stage_of (suc b)) (in_next stage_of b) (segment b)
      (staged.own b less))

  kept_joined : (b more : ℕ) → b + more ≤ stages
      → kept (before stage_of b) (joined segment (b + more)) ≡ joined segment b
  unfolding joined
  kept_joined b zero less =
      ap (λ (n : ℕ). kept (before stage_of b) (joined segment n))
      (let e : b + 0 ≡ b = omega arith in e)
      ∙ kept_all (before stage_of b) (joined segment b) (joined_in b (omega arith))
  kept_joined b (suc more) less =
      ap (λ (n : ℕ). kept (before stage_of b) (joined segment n))
      (let e : b + suc more ≡ suc (b + more) = omega arith in e)
      ∙ kept_append (before stage_of b) (joined segment (b + more)) (segment (b + more))
      ∙ ap (λ (l : List ℕ). kept (before stage_of b) (joined segment (b + more)) ++ l)
      (kept_none (before stage_of b) (in_stage stage_of (b + more))
      (λ v own. not_before stage_of b v (omega (arith, in_is stage_of (b + more) v own)))
      (segment (b + more)) (staged.own (b + more) (omega arith)))
      ∙ append-nil (kept (before stage_of b) (joined segment (b + more)))
      ∙ kept_joined b more (omega arith)

  -- The firings of a round in the stages before one are their segments.
  pub kept_round : (b : ℕ) → b ≤ stages → kept (before stage_of b) round_order ≡ joined segment b
  kept_round b less =
      ap (kept (before stage_of b)) staged.order
      ∙ ap (λ (n : ℕ). kept (before stage_of b) (joined segment n))
      (let e : stages ≡ b + (stages - b) = omega arith in e)
      ∙ kept_joined b (stages - b) (omega arith)

  pub joined_count : (round : ℕ → ℕ) → ((v : ℕ) → firing_count round_order v ≡ round v) → (b : ℕ)
      → b ≤ stages → (v : ℕ) → firing_count (joined segment b) v
      ≡ cut (before stage_of b) round v
  joined_count round counts b less v =
      ap (λ (l : List ℕ). firing_count l v) (sym (kept_round b less))
      ∙ kept_count (before stage_of b) round_order v
      ∙ ap (λ (f : ℕ → ℕ). cut (before stage_of b) f v) (fun_ext counts)
