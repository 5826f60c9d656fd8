-- Loops over a list that give each item away.
use Rattle.std.proofs.Common.{◌≡◌, ℕ, ◌+◌, List, [], ◌∷◌, ◌++◌, length, refl, sym, ap, ◌∙◌}
use Rattle.std.proofs.Common.{append_assoc, arith}

module _ {A : Type 0} where
  -- One more is done.
  pub one_on : (x : A) (done rest items all : List A) → items ≡ x ∷ rest → done ++ items ≡ all
      → (done ++ x ∷ []) ++ rest ≡ all
  one_on x done rest items all is so =
      append_assoc done (x ∷ []) rest ∙ ap (λ l. done ++ l) (sym is) ∙ so

  -- One less is left.
  pub one_less : (x : A) (rest items : List A) (n m : ℕ) → items ≡ x ∷ rest → m + 1 ≡ n
      → n ≡ length items → m ≡ length rest
  one_less x rest items n m is less so = let e = so ∙ ap length is in omega (arith, e)

  -- None is left.
  pub none : (items : List A) (n : ℕ) → n ≡ 0 → n ≡ length items → items ≡ []
  none [] n is so = refl
  none (x ∷ xs) n is so = absurd (omega (arith, so, is))
