-- A test of some element of a list.
use Rattle.std.proofs.Common.{◌≡◌, ℕ, zero, suc, ◌<◌, Bool, true, false, ◌||◌, List, [], ◌∷◌, ◌++◌}
use Rattle.std.proofs.Common.{length, get_or, set, sym, ap, ◌∙◌, refl, arith}
use Rattle.std.specs.List.{list_any}
use Rattle.std.proofs.lemmas.Bool.{false≢true}

pub or_neither : (a b : Bool) → (a || b) ≡ false → (a ≡ false) × (b ≡ false)
or_neither true b h = absurd (false≢true (sym h))
or_neither false b h = (refl, h)

both_false : (a b : Bool) → a ≡ false → b ≡ false → (a || b) ≡ false
both_false a b h k = ap (λ x. x || b) h ∙ k

one_true : (a b : Bool) → b ≡ true → (a || b) ≡ true
one_true true b h = refl
one_true false b h = h

pub list_any-push : {X : Type 0} (test : X → Bool) (xs : List X) (x : X) → list_any test xs ≡ false
    → test x ≡ false → list_any test (xs ++ x ∷ []) ≡ false
list_any-push test [] x none h = both_false (test x) false h refl
list_any-push test (y ∷ ys) x none h =
    let parts = or_neither (test y) (list_any test ys) none in
    both_false (test y) (list_any test (ys ++ x ∷ [])) parts.0 (list_any-push test ys x parts.1 h)

pub list_any-set : {X : Type 0} (test : X → Bool) (xs : List X) (i : ℕ) (x : X)
    → list_any test xs ≡ false → test x ≡ false → list_any test (set xs i x) ≡ false
list_any-set test [] i x none h = refl
list_any-set test (y ∷ ys) zero x none h =
    both_false (test x) (list_any test ys) h (or_neither (test y) (list_any test ys) none).1
list_any-set test (y ∷ ys) (suc i) x none h =
    let parts = or_neither (test y) (list_any test ys) none in
    both_false (test y) (list_any test (set ys i x)) parts.0 (list_any-set test ys i x parts.1 h)

pub list_any-holds : {X : Type 0} (test : X → Bool) (xs : List X) (i : ℕ) (d : X) → i < length xs
    → test (get_or xs i d) ≡ true → list_any test xs ≡ true
list_any-holds test [] i d within h = absurd (omega arith)
list_any-holds test (y ∷ ys) zero d within h = ap (λ b. b || list_any test ys) h
list_any-holds test (y ∷ ys) (suc i) d within h =
    one_true (test y) (list_any test ys) (list_any-holds test ys i d (omega arith) h)
