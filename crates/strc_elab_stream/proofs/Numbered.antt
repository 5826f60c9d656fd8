-- What holds of the elements of a list by their numbers, where the first has a given number.
use Rattle.std.proofs.Common.{◌≡◌, ℕ, zero, suc, ◌+◌, List, [], ◌∷◌, ◌++◌, length, get_or, Some}
use Rattle.std.proofs.Common.{slice_get, refl, subst, arith}

abbrev pub Numbered : {A : Type 0} → (ℕ → A → Type 0) → ℕ → List A → Type 0
Numbered P first [] = Unit {0}
Numbered P first (x ∷ xs) = P first x × Numbered P (suc first) xs

module _ {A : Type 0} (P : ℕ → A → Type 0) where
  -- lists one after the other
  pub join : (xs ys : List A) (first : ℕ) → Numbered P first xs
      → Numbered P (first + length xs) ys → Numbered P first (xs ++ ys)
  join [] ys first here there =
      let same : first + 0 ≡ first = omega arith in
      subst (λ n. Numbered P n ys) same there
  join (x ∷ xs) ys first here there =
      let same : first + suc (length xs) ≡ suc first + length xs = omega arith in
      (here.0, join xs ys (suc first) here.1 (subst (λ n. Numbered P n ys) same there))

  pub former : (xs ys : List A) (first : ℕ) → Numbered P first (xs ++ ys) → Numbered P first xs
  former [] ys first both = tt
  former (x ∷ xs) ys first both = (both.0, former xs ys (suc first) both.1)

  pub latter : (xs ys : List A) (first : ℕ) → Numbered P first (xs ++ ys)
      → Numbered P (first + length xs) ys
  latter [] ys first both =
      let same : first ≡ first + 0 = omega arith in
      subst (λ n. Numbered P n ys) same both
  latter (x ∷ xs) ys first both =
      let same : suc first + length xs ≡ first + suc (length xs) = omega arith in
      subst (λ n. Numbered P n ys) same (latter xs ys (suc first) both.1)

  -- one element of the list
  pub numbered_get : (xs : List A) (first place : ℕ) (x : A) → Numbered P first xs
      → slice_get xs place ≡ Some x → P (first + place) x
  numbered_get [] first place x all is = absurd (cc)
  numbered_get (y ∷ ys) first zero x all is =
      let same : first ≡ first + 0 = omega arith in
      let element : y ≡ x = cc in
      subst (λ n. P n x) same (subst (P first) element all.0)
  numbered_get (y ∷ ys) first (suc place) x all is =
      let same : suc first + place ≡ first + suc place = omega arith in
      subst (λ n. P n x) same (numbered_get ys (suc first) place x all.1 is)

  pub shifted : (xs : List A) (first : ℕ) → Numbered (λ n x. P (suc n) x) first xs
      → Numbered P (suc first) xs
  shifted [] first all = tt
  shifted (x ∷ xs) first all = (all.0, shifted xs (suc first) all.1)

-- what follows from it
pub each : {A : Type 0} (P Q : ℕ → A → Type 0) → ((number : ℕ) (x : A) → P number x → Q number x)
    → (xs : List A) (first : ℕ) → Numbered P first xs → Numbered Q first xs
each P Q step [] first all = tt
each P Q step (x ∷ xs) first all = (step first x all.0, each P Q step xs (suc first) all.1)

-- the elements of a whole list by its look-ups
pub by_place : {A : Type 0} (xs : List A) → Numbered (λ n x. slice_get xs n ≡ Some x) 0 xs
by_place [] = tt
by_place {A} (x ∷ xs) =
    (refl, shifted (λ n y. slice_get (x ∷ xs) n ≡ Some y) xs 0 (by_place xs))

pub by_place_or : {A : Type 0} (xs : List A) (other : A)
    → Numbered (λ n x. get_or xs n other ≡ x) 0 xs
by_place_or [] other = tt
by_place_or {A} (x ∷ xs) other =
    (refl, shifted (λ n y. get_or (x ∷ xs) n other ≡ y) xs 0 (by_place_or xs other))
