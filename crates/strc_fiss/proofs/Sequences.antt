-- Lists of the values of numbers in order.
use Rattle.std.proofs.Common.{◌≡◌, refl, sym, ap, ◌∙◌, ℕ, zero, suc, ◌+◌, ◌<◌, arith}
use Rattle.std.proofs.Common.{List, [], ◌∷◌, ◌++◌, length, map, get_or, append_assoc, inl, inr}
use Rattle.std.proofs.lemmas.Bool.{cases_lt}
use Rattle.std.proofs.lemmas.List.{get_or_append_left, get_or_push, map-append, length-append}
use Rattle.strc_elab_graph.specs.declared.graph.Fission.{Fission}
use Rattle.strc_fiss.specs.Numbers.{up_to, joined_up_to, last_of, each_part}

pub up_to_more : {A : Type 0} (value : ℕ → A) (n : ℕ)
    → up_to value (n + 1) ≡ up_to value n ++ value n ∷ []
up_to_more value n = let e : n + 1 ≡ suc n = omega arith in ap (up_to value) e

-- one value more at the end of a list
pub pushed : {A X : Type 0} (view : X → A) (value : ℕ → A) (old : List A) (now : List X) (n : ℕ)
    (x : X)
    → map view now ≡ old ++ up_to value n → view x ≡ value n
    → map view (now ++ x ∷ []) ≡ old ++ up_to value (n + 1)
pushed view value old now n x is e =
    map-append view now (x ∷ [])
    ∙ ap (λ l. l ++ view x ∷ []) is
    ∙ append_assoc old (up_to value n) (view x ∷ [])
    ∙ ap (λ y. old ++ (up_to value n ++ y ∷ [])) e
    ∙ ap (λ l. old ++ l) (sym (up_to_more value n))

pub pushed_plain : {A : Type 0} (value : ℕ → A) (old now : List A) (n : ℕ) (x : A)
    → now ≡ old ++ up_to value n → x ≡ value n
    → now ++ x ∷ [] ≡ old ++ up_to value (n + 1)
pushed_plain value old now n x is e =
    ap (λ l. l ++ x ∷ []) is
    ∙ append_assoc old (up_to value n) (x ∷ [])
    ∙ ap (λ y. old ++ (up_to value n ++ y ∷ [])) e
    ∙ ap (λ l. old ++ l) (sym (up_to_more value n))

-- the parts of one node more
pub next_parts : {A : Type 0} (share : ℕ → Fission) (value : ℕ → ℕ → A) (before : List A) (n : ℕ)
    (given : ℕ → A) (fission : Fission)
    → before ≡ each_part share value n → given ≡ value n → fission ≡ share n
    → before ++ up_to given (suc (last_of fission)) ≡ each_part share value (n + 1)
next_parts share value before n given fission is e dealt =
    let more : n + 1 ≡ suc n = omega arith in
    ap (λ l. l ++ up_to given (suc (last_of fission))) is
    ∙ ap (λ f. each_part share value n ++ up_to f (suc (last_of fission))) e
    ∙ ap (λ (f : Fission). each_part share value n ++ up_to (value n) (suc (last_of f))) dealt
    ∙ ap (each_part share value) (sym more)

pub length_up_to : {A : Type 0} (value : ℕ → A) (n : ℕ) → length (up_to value n) ≡ n
length_up_to value zero = refl
length_up_to value (suc n) = omega (
  arith,
  length-append (up_to value n)
      (value n ∷ []),
  length_up_to value n,
)

-- the value of a number
pub get_up_to : {A : Type 0} (value : ℕ → A) (n k : ℕ) (d : A) → k < n
    → get_or (up_to value n) k d ≡ value k
get_up_to value zero k d less = absurd (omega (arith, less))
get_up_to value (suc n) k d less = elim (cases_lt k n) [
  | inl lower ↦ get_or_append_left (up_to value n) (value n ∷ []) d k
      (omega (arith, lower, length_up_to value n))
      ∙ get_up_to value n k d lower
  | inr last ↦
      let e : k ≡ n = omega (arith, less, last) in
      get_or_push (up_to value n) (value n) d k (omega (arith, e, length_up_to value n))
      ∙ ap value (sym e)
]

-- lists that are equal at each number are joined alike
pub joined_same : {A : Type 0} (one other : ℕ → List A) (n : ℕ)
    → ((k : ℕ) → k < n → one k ≡ other k) → joined_up_to one n ≡ joined_up_to other n
joined_same one other zero same = refl
joined_same one other (suc n) same =
    ap (λ l. l ++ one n) (joined_same one other n (λ k less. same k (omega (arith, less))))
    ∙ ap (λ l. joined_up_to other n ++ l) (same n (omega arith))
