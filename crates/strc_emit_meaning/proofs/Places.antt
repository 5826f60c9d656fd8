-- Places within and outside of lists, and the tests that tell.
use Rattle.std.proofs.Common.{◌≡◌, ℕ, zero, suc, ◌<◌, ◌≤◌, ℤ, pos, negsuc, Bool, true}
use Rattle.std.proofs.Common.{false, cond, not, ◌||◌, List, [], ◌∷◌, length, refl, ap, ◌∙◌}
use Rattle.std.proofs.Common.{Some, None, ◌⊎◌, inl, inr, arith, true≢false, nat_lt, int_lt}
use Rattle.std.specs.Prelude.{slice_get}
use Rattle.std.proofs.lemmas.Bool.{lt-ltb, le-ltb, cases_lt}
use Rattle.std.proofs.Common.{zero-le, le_of_suc-le-suc, not-suc-le-zero}
use Rattle.strc_work_meaning.specs.Firing.{place_in}

pub slice_get_past : (items : List ℤ) (place : ℕ) → length items ≤ place
    → slice_get items place ≡ None
slice_get_past [] place le = refl
slice_get_past (first ∷ rest) zero le = absurd (not-suc-le-zero le)
slice_get_past (first ∷ rest) (suc place) le = slice_get_past rest place (le_of_suc-le-suc le)

-- an index outside of so many places
abbrev pub is_outside : ℤ → ℕ → Bool
is_outside index room = int_lt index (pos 0) || not (int_lt index (pos room))

pub inside : (place room : ℕ) → place < room → is_outside (pos place) room ≡ false
inside place room lt =
    ap (λ t. t || not (nat_lt place room)) (le-ltb place 0 zero-le)
    ∙ ap not (lt-ltb place room lt)

past : (place room : ℕ) → room ≤ place → is_outside (pos place) room ≡ true
past place room le =
    ap (λ t. t || not (nat_lt place room)) (le-ltb place 0 zero-le)
    ∙ ap not (le-ltb place room le)

abbrev pub IsPast : ℤ → ℕ → Type 0
IsPast index room = (place : ℕ) → index ≡ pos place → room ≤ place

abbrev natural : ℤ → ℕ
natural (pos n) = n
natural (negsuc n) = n

abbrev is_negative : ℤ → Bool
is_negative (pos n) = false
is_negative (negsuc n) = true

negative : (n place : ℕ) → negsuc n ≡ pos place → ⊥
negative n place e = true≢false (ap is_negative e)

pub index_cases : (index : ℤ) (room : ℕ)
    → ((place : ℕ) × (index ≡ pos place) × (place < room))
    ⊎ ((is_outside index room ≡ true) × IsPast index room)
index_cases (negsuc n) room = inr (refl, λ place e. absurd (negative n place e))
index_cases (pos n) room = by (cases_lt n room)
  where
    by : (n < room) ⊎ (room ≤ n) → ((place : ℕ) × (pos n ≡ pos place) × (place < room))
        ⊎ ((is_outside (pos n) room ≡ true) × IsPast (pos n) room)
    by (inl lt) = inl (n, refl, lt)
    by (inr le) = inr (past n room le, λ place e. omega (arith, ap natural e))

pub place_in_past : (index : ℤ) (room : ℕ) → IsPast index room → place_in room index ≡ None
place_in_past (negsuc n) room over = refl
place_in_past (pos n) room over =
    ap (λ t. cond t (Some n) None) (le-ltb n room (over n refl))

pub place_in_is : (place room : ℕ) → place < room → place_in room (pos place) ≡ Some place
place_in_is place room lt = ap (λ t. cond t (Some place) None) (lt-ltb place room lt)
