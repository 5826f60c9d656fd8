-- What the first element that passes a test says, and equality of lists as a test.
use Rattle.std.proofs.Common.{◌≡◌, ℕ, Bool, true, false, cond, List, [], ◌∷◌, refl, sym, subst}
use Rattle.std.proofs.Common.{Some, None, ◌⊎◌, inl, inr, nat_eq, ◌&&◌, ◌||◌}
use Rattle.std.specs.List.{find, list_all}
use Rattle.std.specs.Cmp.Lexicographic.{pointwise, same_text}
use Rattle.std.proofs.lemmas.Cmp.{nat_list_eq_equiv}

pub either : (b : Bool) → (b ≡ true) ⊎ (b ≡ false)
either true = inl refl
either false = inr refl

-- the side that a test picks
pub pick_true : {X : Type 0} (b : Bool) (x y z : X) → cond b x y ≡ z → b ≡ true → x ≡ z
pick_true true x y z e h = e
pick_true false x y z e h = absurd (cc)

pub pick_false : {X : Type 0} (b : Bool) (x y z : X) → cond b x y ≡ z → b ≡ false → y ≡ z
pick_false true x y z e h = absurd (cc)
pick_false false x y z e h = e

pub none_is_not_some : {X : Type 0} (x : X) → None ≡ Some x → ⊥
none_is_not_some x e = absurd (cc)

pub some_is_not_none : {X : Type 0} (x : X) → Some x ≡ None → ⊥
some_is_not_none x e = absurd (cc)

pub some_same : {X : Type 0} {x y : X} → Some x ≡ Some y → x ≡ y
some_same e = cc

-- both parts of a conjunction
pub both_parts : (a b : Bool) → (a && b) ≡ true → (a ≡ true) × (b ≡ true)
both_parts true true e = (refl, refl)
both_parts true false e = absurd (cc)
both_parts false b e = absurd (cc)

-- what is found passes
pub find_passes : {X : Type 0} (p : X → Bool) (xs : List X) (x : X) → find p xs ≡ Some x
    → p x ≡ true
find_passes p [] x e = absurd (cc)
find_passes p (y ∷ xs) x e = elim (either (p y)) [
  | inl here ↦ let same : Some y ≡ Some x = rw here at e in let one : y ≡ x = cc in
      subst (λ z. p z ≡ true) one here
  | inr there ↦ find_passes p xs x (rw there at e)
]

-- what every element passes, what is found passes
pub find_all : {X : Type 0} (p q : X → Bool) (xs : List X) (x : X) → list_all q xs ≡ true
    → find p xs ≡ Some x → q x ≡ true
find_all p q [] x all e = absurd (cc)
find_all p q (y ∷ xs) x all e = let parts = both_parts (q y) (list_all q xs) all in
    elim (either (p y)) [
      | inl here ↦ let same : Some y ≡ Some x = rw here at e in let one : y ≡ x = cc in
          subst (λ z. q z ≡ true) one parts.0
      | inr there ↦ find_all p q xs x parts.1 (rw there at e)
    ]

-- what one search finds, no search that finds nothing passes
pub find_none : {X : Type 0} (p q : X → Bool) (xs : List X) (x : X) → find p xs ≡ Some x
    → find q xs ≡ None → q x ≡ false
find_none p q [] x found none = absurd (cc)
find_none p q (y ∷ xs) x found none = elim (either (q y)) [
  | inl here ↦ let bad : Some y ≡ None = rw here at none in absurd (cc)
  | inr other ↦ elim (either (p y)) [
    | inl here ↦ let same : Some y ≡ Some x = rw here at found in let one : y ≡ x = cc in
        subst (λ z. q z ≡ false) one other
    | inr there ↦ find_none p q xs x (rw there at found) (rw other at none)
  ]
]

pub same-pointwise : (xs ys : List ℕ) → pointwise nat_eq xs ys ≡ true → xs ≡ ys
same-pointwise xs ys e = same_text xs ys (sym e)

pub pointwise-same : (xs ys : List ℕ) → xs ≡ ys → pointwise nat_eq xs ys ≡ true
pointwise-same xs ys e = subst (λ zs. pointwise nat_eq xs zs ≡ true) e (nat_list_eq_equiv.refl xs)

pub or_false : (a b : Bool) → (a || b) ≡ true → a ≡ false → b ≡ true
or_false true b e h = absurd (cc)
or_false false b e h = e
