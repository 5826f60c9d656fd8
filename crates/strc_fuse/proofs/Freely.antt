-- Lists whose nodes may all be fused.
use Rattle.std.proofs.Common.{◌≡◌, refl, sym, ap, ◌∙◌, subst, ℕ, zero, suc, ◌+◌, ◌<◌, ◌≤◌}
use Rattle.std.proofs.Common.{Bool, true, false, List, [], ◌∷◌, ◌++◌, length, take, get_or, arith}
use Rattle.std.proofs.lemmas.Bool.{true≢false}
use Rattle.strc_elab_dataflow.specs.FusedUnits.{AreFree}

module _ (free : ℕ → Bool) where
  pub free_more : (xs : List ℕ) (k d : ℕ) → k < length xs → AreFree free (take k xs)
      → free (get_or xs k d) ≡ true → AreFree free (take (k + 1) xs)
  free_more [] k d less before is = absurd (omega (arith, less))
  free_more (x ∷ xs) zero d less before is = (is, tt)
  free_more (x ∷ xs) (suc k) d less before is =
      let e : suc k + 1 ≡ suc (k + 1) = omega arith in
      subst (λ n. AreFree free (take n (x ∷ xs))) (sym e)
      (before.0, free_more xs k d (omega (arith, less)) before.1 is)

  pub free_all : (xs : List ℕ) (k : ℕ) → length xs ≤ k → AreFree free (take k xs)
      → AreFree free xs
  free_all [] k past before = tt
  free_all (x ∷ xs) zero past before = absurd (omega (arith, past))
  free_all (x ∷ xs) (suc k) past before =
      (before.0, free_all xs k (omega (arith, past)) before.1)

  pub not_free : (xs : List ℕ) (k d : ℕ) → k < length xs → free (get_or xs k d) ≡ false
      → AreFree free xs → ⊥
  not_free [] k d less is all = absurd (omega (arith, less))
  not_free (x ∷ xs) zero d less is all = true≢false (sym all.0 ∙ is)
  not_free (x ∷ xs) (suc k) d less is all = not_free xs k d (omega (arith, less)) is all.1
