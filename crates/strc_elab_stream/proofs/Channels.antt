-- What holds of each channel of lists one after the other, and of each pair.
use Rattle.std.proofs.Common.{zero, suc, List, [], ◌∷◌, ◌++◌, arith}
use Rattle.std.proofs.Common.{All, AllPairs}
use Rattle.std.specs.List.{AllByRecursion}

module _ {A : Type 0} where
  pub each_append : (P : A → Type 0) (xs ys : List A) → AllByRecursion P xs → AllByRecursion P ys
      → AllByRecursion P (xs ++ ys)
  each_append P [] ys first second = second
  each_append P (x ∷ xs) ys first second = (first.0, each_append P xs ys first.1 second)

  pub each_follows : (P Q : A → Type 0) → ((x : A) → P x → Q x) → (xs : List A)
      → AllByRecursion P xs → AllByRecursion Q xs
  each_follows P Q step [] all = tt
  each_follows P Q step (x ∷ xs) all = (step x all.0, each_follows P Q step xs all.1)

  pub each_all : (P : A → Type 0) (xs : List A) → AllByRecursion P xs → All P xs
  each_all P [] all k d less = absurd (omega arith)
  each_all P (x ∷ xs) all zero d less = all.0
  each_all P (x ∷ xs) all (suc k) d less = each_all P xs all.1 k d (omega (arith, less))

  -- each is in this relation to each later one
  abbrev pub Sorted : (A → A → Type 0) → List A → Type 0
  Sorted R [] = Unit {0}
  Sorted R (x ∷ xs) = AllByRecursion (R x) xs × Sorted R xs

  pub sorted_append : (R : A → A → Type 0) (P Q : A → Type 0)
      → ((x y : A) → P x → Q y → R x y) → (xs ys : List A) → Sorted R xs → Sorted R ys
      → AllByRecursion P xs → AllByRecursion Q ys → Sorted R (xs ++ ys)
  sorted_append R P Q across [] ys first second before later = second
  sorted_append R P Q across (x ∷ xs) ys first second before later = (
    each_append (R x) xs ys first.0 (each_follows Q (R x) (λ y q. across x y before.0 q) ys later),
    sorted_append R P Q across xs ys first.1 second before.1 later,
  )

  pub sorted_pairs : (R : A → A → Type 0) (xs : List A) → Sorted R xs → AllPairs R xs
  sorted_pairs R [] sorted i j d less within = absurd (omega arith)
  sorted_pairs R (x ∷ xs) sorted i zero d less within = absurd (omega arith)
  sorted_pairs R (x ∷ xs) sorted zero (suc j) d less within =
      each_all (R x) xs sorted.0 j d (omega (arith, within))
  sorted_pairs R (x ∷ xs) sorted (suc i) (suc j) d less within =
      sorted_pairs R xs sorted.1 i j d (omega (arith, less)) (omega (arith, within))
