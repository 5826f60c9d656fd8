-- The greatest divisor that is at most a number.
use Rattle.std.proofs.Common.{◌≡◌, sym, ap, ◌∙◌, subst, ℕ, zero, suc, ◌+◌, ◌*◌, ◌/◌, ◌%◌, ◌<◌}
use Rattle.std.proofs.Common.{Bool, cond, inl, inr, arith}
use Rattle.std.proofs.Math.Nat.{div-add-mod}
use Rattle.std.proofs.lemmas.Bool.{cases_lt}
use Rattle.std.proofs.lemmas.Bool.Decides.{eqb_tells}
use Rattle.std.proofs.lemmas.Nat.{mod-mul-add}
use Rattle.strc_fiss.specs.Ways.{greatest_divisor}
use Rattle.strc_stage_plan.specs.Divisors.{Divides, IsGreatestDivisor}

-- by the rest of a division
divides_by : (divisor count : ℕ) → 0 < divisor → count % divisor ≡ 0 → Divides divisor count
divides_by divisor count some none = record {
  some = some;
  share = count / divisor;
  whole = no_rest (divisor * (count / divisor)) (count % divisor) (div-add-mod count divisor) none;
}
  where
    no_rest : (product rest : ℕ) → product + rest ≡ count → rest ≡ 0 → product ≡ count
    no_rest product rest sum none = omega (arith, sum, none)

rest_of : (divisor count : ℕ) → Divides divisor count → count % divisor ≡ 0
rest_of divisor count is =
    let turned : is.share * divisor + 0 ≡ divisor * is.share = omega arith in
    ap (λ (n : ℕ). n % divisor) (sym (turned ∙ is.whole)) ∙ mod-mul-add is.share divisor 0 is.some

pub is_greatest : (count most : ℕ) → IsGreatestDivisor count most (greatest_divisor count most)
is_greatest count zero = record {
  divides = record { some = omega arith; share = count; whole = omega arith };
  within = omega arith;
  greatest = λ other less is. omega (arith, less);
}
is_greatest count (suc most) = elim (eqb_tells (count % suc most) 0) [
  | inl even ↦
      let same : greatest_divisor count (suc most) ≡ suc most =
      ap (λ (t : Bool). cond t (suc most) (greatest_divisor count most)) even.0 in
      subst (IsGreatestDivisor count (suc most)) (sym same) (record {
        divides = divides_by (suc most) count (omega arith) even.1;
        within = omega arith;
        greatest = λ other less is. less;
      })
  | inr odd ↦
      let same : greatest_divisor count (suc most) ≡ greatest_divisor count most =
      ap (λ (t : Bool). cond t (suc most) (greatest_divisor count most)) odd.0 in
      let lower = is_greatest count most in
      subst (IsGreatestDivisor count (suc most)) (sym same) (record {
        divides = lower.divides;
        within = omega (arith, lower.within);
        greatest = λ other less is. elim (cases_lt most other) [
          | inl more ↦
              let e : other ≡ suc most = omega (arith, more, less) in
              absurd (odd.1 (rest_of (suc most) count (subst (λ (n : ℕ). Divides n count) e is)))
          | inr within ↦ lower.greatest other within is
        ];
      })
]
