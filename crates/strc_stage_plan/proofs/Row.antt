-- Stages round a feedback loop.
use Rattle.std.proofs.Common.{◌≡◌, refl, sym, subst, ℕ, zero, suc, ◌<◌, ◌≤◌, List, [], ◌∷◌}
use Rattle.std.proofs.Common.{Some, None, slice_get, arith, All, inl, inr, ◌⊎◌}
use Rattle.std.proofs.lemmas.Bool.{cases_lt}
use Rattle.std.proofs.lemmas.List.Elements.{All-cons, All-nil}
use Rattle.std.proofs.lemmas.Option.{none-some, same_Some}
use Rattle.strc_elab_dataflow.specs.FusedUnits.{RoundUnit}
use Rattle.strc_elab_dataflow.specs.Pieces.{unit_of}
use Rattle.strc_stage_plan.specs.Cuts.{IsBetweenGroups, IsBetweenUnits}
use Rattle.strc_stage_plan.specs.Rows.{loops, order, fused, bound_in, CutRoundALoop}
use Rattle.strc_stage_plan.specs.Rows.{BoundsRoundALoop}
use Rattle.strc_stage_plan.specs.Rows.{BoundsRoundAUnit}

-- nodes of loops are 1, 2 and 3
in_loop : (node loop : ℕ) → slice_get loops node ≡ Some (Some loop) → (1 ≤ node) × (node ≤ 3)
in_loop zero loop e = absurd (none-some loop (same_Some None (Some loop) e))
in_loop (suc zero) loop e = (omega arith, omega arith)
in_loop (suc (suc zero)) loop e = (omega arith, omega arith)
in_loop (suc (suc (suc zero))) loop e = (omega arith, omega arith)
in_loop (suc (suc (suc (suc zero)))) loop e =
    absurd (none-some loop (same_Some None (Some loop) e))
in_loop (suc (suc (suc (suc (suc node))))) loop e = absurd (none-some (Some loop) e)

before_loop : (bound : ℕ) → bound ≤ 1 → IsBetweenGroups loops bound
before_loop bound few low high loop less past here there =
    absurd (omega (arith, few, less, (in_loop low loop here).0))

after_loop : (bound : ℕ) → 4 ≤ bound → IsBetweenGroups loops bound
after_loop bound many low high loop less past here there =
    absurd (omega (arith, many, past, (in_loop high loop there).1))

abbrev bounds : List ℕ
bounds = 0 ∷ 1 ∷ 4 ∷ 5 ∷ []

rising_at : (stage : ℕ) → stage < 3 → bound_in bounds stage ≤ bound_in bounds (suc stage)
rising_at zero less = omega arith
rising_at (suc zero) less = omega arith
rising_at (suc (suc zero)) less = omega arith
rising_at (suc (suc (suc stage))) less = absurd (omega (arith, less))

between_at : (stage : ℕ) → stage ≤ 3 → IsBetweenGroups loops (bound_in bounds stage)
between_at zero less = before_loop 0 (omega arith)
between_at (suc zero) less = before_loop 1 (omega arith)
between_at (suc (suc zero)) less = after_loop 4 (omega arith)
between_at (suc (suc (suc zero))) less = after_loop 5 (omega arith)
between_at (suc (suc (suc (suc stage)))) less = absurd (omega (arith, less))

-- nodes 1 and 3 are on both sides
parted : (bound : ℕ) → 1 < bound → bound < 4 → IsBetweenGroups loops bound → ⊥
parted bound past less between = between 1 3 1 past (omega (arith, less)) refl refl

-- units of one node each have none on two sides
alone : (number node turns : ℕ) (later : List RoundUnit) → IsBetweenUnits later number
    → IsBetweenUnits (unit_of turns node ∷ later) number
alone number node turns later rest =
    All-cons (λ (u : RoundUnit). All (λ n. n < number) u.nodes ⊎ All (λ n. number ≤ n) u.nodes)
    (unit_of turns node) later
    (elim (cases_lt node number) [
      | inl below ↦ inl (All-cons (λ (n : ℕ). n < number) node [] below
          (All-nil (λ (n : ℕ). n < number)))
      | inr past ↦ inr (All-cons (λ (n : ℕ). number ≤ n) node [] past
          (All-nil (λ (n : ℕ). number ≤ n)))
    ]) rest

all_alone : (number : ℕ) → IsBetweenUnits order number
all_alone number =
    alone number 0 1 (unit_of 2 1 ∷ unit_of 2 2 ∷ unit_of 2 3 ∷ unit_of 1 4 ∷ [])
    (alone number 1 2 (unit_of 2 2 ∷ unit_of 2 3 ∷ unit_of 1 4 ∷ [])
    (alone number 2 2 (unit_of 2 3 ∷ unit_of 1 4 ∷ [])
    (alone number 3 2 (unit_of 1 4 ∷ [])
    (alone number 4 1 [] (λ k d less. absurd (omega (arith, less)))))))

pub cut_round_a_loop : CutRoundALoop
cut_round_a_loop graph five are = (
  record {
    first = refl;
    all = sym five;
    rising = rising_at;
    between = subst (λ l. (stage : ℕ) → stage ≤ 3 → IsBetweenGroups l (bound_in bounds stage))
        (sym are) between_at;
    units = λ stage less. all_alone (bound_in bounds stage);
  },
  λ bound past less cut. parted (bound 1) past less
      (subst (λ l. IsBetweenGroups l (bound 1)) are (cut.between 1 (omega arith))),
)

pub bounds_round_a_loop : BoundsRoundALoop
bounds_round_a_loop = (refl, refl, refl, refl)

-- nodes 0 and 2 of the unit are on both sides of 2
parts_fused : IsBetweenUnits fused 2 → ⊥
parts_fused whole = elim (whole 0 (unit_of 0 0) (omega arith)) [
  | inl below ↦ absurd (omega (arith, below 3 0 (omega arith)))
  | inr from ↦ absurd (omega (arith, from 0 0 (omega arith)))
]

pub bounds_round_a_unit : BoundsRoundAUnit
bounds_round_a_unit = record { starts = refl; two = refl; nine = refl; parted = parts_fused }
