-- A set of numbers with another number, or without one of its numbers.
use Rattle.std.proofs.Common.{◌≡◌, ◌≢◌, ◌∙◌, sym, ap, ℕ, zero, suc, ◌+◌, ◌<◌, ◌≤◌, ◌==◌, Bool}
use Rattle.std.proofs.Common.{true, false, cond, List, refl, ◌⊎◌, inl, inr, arith, eq-eqb, ne_eqb}
use Rattle.std.proofs.lemmas.Bool.{cases_eq, true≢false}
use Rattle.strc_balance.specs.NumberSets.{has_number, IsWith, IsWithout, size_below}

abbrev one : Bool → ℕ
one b = cond b 1 0

module _ (number : ℕ) (old new : List ℕ) where
  here : (b : Bool) → ((other : ℕ) → has_number new other
      ≡ cond (other == number) b (has_number old other))
      → (other : ℕ) → other ≡ number → has_number new other ≡ b
  here b is other same =
      is other ∙ ap (λ t. cond t b (has_number old other)) (eq-eqb other number same)

  away : (b : Bool) → ((other : ℕ) → has_number new other
      ≡ cond (other == number) b (has_number old other))
      → (other : ℕ) → other ≢ number → has_number new other ≡ has_number old other
  away b is other apart =
      is other ∙ ap (λ t. cond t b (has_number old other)) (ne_eqb other number apart)

  pub with_own : IsWith number old new → has_number new number ≡ true
  with_own is = here true is number refl

  pub with_old : IsWith number old new → (other : ℕ) → has_number old other ≡ true
      → has_number new other ≡ true
  with_old is other has =
      elim (cases_eq other number) [
        | inl same ↦ here true is other same
        | inr apart ↦ away true is other apart ∙ has
      ]

  pub with_cases : IsWith number old new → (other : ℕ) → has_number new other ≡ true
      → (other ≡ number) ⊎ (has_number old other ≡ true)
  with_cases is other has =
      elim (cases_eq other number) [
        | inl same ↦ inl same
        | inr apart ↦ inr (sym (away true is other apart) ∙ has)
      ]

  pub without_cases : IsWithout number old new → (other : ℕ) → has_number old other ≡ true
      → (other ≡ number) ⊎ (has_number new other ≡ true)
  without_cases is other has =
      elim (cases_eq other number) [
        | inl same ↦ inl same
        | inr apart ↦ inr (away false is other apart ∙ has)
      ]

  pub without_old : IsWithout number old new → (other : ℕ) → has_number new other ≡ true
      → has_number old other ≡ true
  without_old is other has =
      elim (cases_eq other number) [
        | inl same ↦ absurd (true≢false (sym has ∙ here false is other same))
        | inr apart ↦ sym (away false is other apart) ∙ has
      ]

  -- below the number nothing changes
  size_same : (b : Bool) → ((other : ℕ) → has_number new other
      ≡ cond (other == number) b (has_number old other))
      → (bound : ℕ) → bound ≤ number → size_below new bound ≡ size_below old bound
  size_same b is zero less = refl
  size_same b is (suc bound) less =
      ap (λ t. size_below new bound + cond t 1 0)
      (away b is bound (λ e. omega (arith, less, e)))
      ∙ ap (λ n. n + cond (has_number old bound) 1 0) (size_same b is bound (omega (arith, less)))

  pub size_with : IsWith number old new → (bound : ℕ)
      → size_below new bound ≤ size_below old bound + 1
  size_with is zero = omega arith
  size_with is (suc bound) =
      elim (cases_eq bound number) [
        | inl same ↦
            let rest = size_same true is bound (omega (arith, same)) in
            let own = ap one (here true is bound same) in
            omega (arith, rest, own)
        | inr apart ↦
            let own = ap one (away true is bound apart) in
            omega (arith, size_with is bound, own)
      ]

  pub size_without : IsWithout number old new → has_number old number ≡ true → (bound : ℕ)
      → number < bound → size_below new bound + 1 ≡ size_below old bound
  size_without is has zero less = absurd (omega (arith, less))
  size_without is has (suc bound) less =
      elim (cases_eq bound number) [
        | inl same ↦
            let rest = size_same false is bound (omega (arith, same)) in
            let own = ap one (here false is bound same) in
            let was = ap one (ap (has_number old) same ∙ has) in
            omega (arith, rest, own, was)
        | inr apart ↦
            let own = ap one (away false is bound apart) in
            let rest = size_without is has bound (omega (arith, less, apart)) in
            omega (arith, rest, own)
      ]
