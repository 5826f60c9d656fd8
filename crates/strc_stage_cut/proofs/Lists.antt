-- Lists that loops make.
use Rattle.std.proofs.Common.{◌≡◌, sym, ap, ◌∙◌, subst, ℕ, zero, suc, List, []}
use Rattle.std.proofs.Common.{◌∷◌, ◌++◌, length, append_assoc, Some}
use Rattle.std.specs.Prelude.{slice_get}

-- one more is made, of what is left; or none is
pub made_next : {A : Type 0} (out whole now later : List A) (made : A)
    → now ≡ made ∷ later → out ++ now ≡ whole → (out ++ made ∷ []) ++ later ≡ whole
made_next out whole now later made is so_far =
    append_assoc out (made ∷ []) later ∙ ap (λ l. out ++ l) (sym is) ∙ so_far

pub none_next : {A : Type 0} (out whole now later : List A)
    → now ≡ later → out ++ now ≡ whole → out ++ later ≡ whole
none_next out whole now later is so_far = ap (λ l. out ++ l) (sym is) ∙ so_far

-- what is known of each element by its number, with one more
pub each_next : {A : Type 0} (P : ℕ → A → Type 0) (xs : List A) (x : A)
    → ((k : ℕ) (y : A) → slice_get xs k ≡ Some y → P k y) → P (length xs) x
    → (k : ℕ) (y : A) → slice_get (xs ++ x ∷ []) k ≡ Some y → P k y
each_next P [] x each own zero y is = subst (P 0) (cc) own
each_next P [] x each own (suc k) y is = absurd (cc)
each_next P (z ∷ xs) x each own zero y is = each zero y is
each_next P (z ∷ xs) x each own (suc k) y is =
    each_next (λ n. P (suc n)) xs x (λ k. each (suc k)) own k y is
