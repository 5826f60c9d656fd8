-- What an anonymous stream sees, from the outermost variable inwards.
use Rattle.std.proofs.Common.{◌≡◌, ℕ, zero, suc, ◌+◌, ◌-◌, ◌<◌, ℤ, Bool, true, false, ◌||◌, List}
use Rattle.std.proofs.Common.{[], ◌∷◌, ◌++◌, length, drop, take, Option, Some, None, cond, eqb}
use Rattle.std.proofs.Common.{⊎_elim, refl, sym}
use Rattle.std.proofs.Common.{ap, ◌∙◌, arith, Vec, drop-cons}
use Rattle.std.proofs.lemmas.Option.{get_or_from_slice_get}
use Rattle.std.specs.Prelude.{bytes_eq, slice_get}
use Rattle.std.specs.declared.alloc.Global.{Global}
use Rattle.std.proofs.lemmas.Bool.Decides.{eqb_tells}
use Rattle.std.proofs.lemmas.Slice.Eq.{bytes_eq-Decides}
use Rattle.strc_work_meaning.specs.Firing.{Variables}
use Rattle.strc_lex_names.specs.Names.{has_name, plain_names}
use Rattle.strc_work_meaning.specs.Typing.{TypedNames}
use Rattle.strc_work_meaning.specs.declared.types.ValueType.{ValueType}
use Rattle.strc_elab_statements.specs.Bindings.{row_at, with_cells, cells_of}
use Rattle.strc_elab_statements.specs.Texts.{Constants, unshadowed, as_constant, captures_after}
use Rattle.strc_elab_statements.specs.Captures.{captured_one, captured, unshadowed_one}
use Rattle.strc_elab_statements.proofs.Slots.{length_with_cells}

-- the cells of a variable are the row of its number
pub cells_of_row : (names : TypedNames) (cells : List (Vec ℤ Global)) (number : ℕ)
    → number < length names → cells_of (with_cells names cells) number ≡ row_at cells number
cells_of_row [] cells number below = absurd (omega arith)
cells_of_row (first ∷ rest) cells number below =
    ⊎_elim (λ h. here h.0 h.1) (λ h. further h.0 h.1 (cells_of_row rest cells number))
    (eqb_tells (length (with_cells rest cells)) number)
  where
    count : length (with_cells rest cells) ≡ length rest
    count = length_with_cells rest cells

    here : eqb (length (with_cells rest cells)) number ≡ true
        → length (with_cells rest cells) ≡ number
        → cond (eqb (length (with_cells rest cells)) number) (row_at cells (length rest))
        (cells_of (with_cells rest cells) number) ≡ row_at cells number
    here e same = ap (λ b. cond b (row_at cells (length rest))
        (cells_of (with_cells rest cells) number)) e ∙ ap (row_at cells) (sym count ∙ same)

    further : eqb (length (with_cells rest cells)) number ≡ false
        → (length (with_cells rest cells) ≡ number → ⊥)
        → (number < length rest → cells_of (with_cells rest cells) number ≡ row_at cells number)
        → cond (eqb (length (with_cells rest cells)) number) (row_at cells (length rest))
        (cells_of (with_cells rest cells) number) ≡ row_at cells number
    further e other inner =
        let apart : length rest ≡ number → ⊥ = λ same. other (count ∙ same) in
        ap (λ b. cond b (row_at cells (length rest)) (cells_of (with_cells rest cells) number)) e
        ∙ inner (omega (arith, apart))

-- what is shadowed is all that counts of the shadowed names

pub unshadowed_alike : (h g : List (List ℕ)) → ((n : List ℕ) → has_name h n ≡ has_name g n)
    → (constants : Constants) → unshadowed h constants ≡ unshadowed g constants
unshadowed_alike h g alike [] = refl
unshadowed_alike h g alike (first ∷ rest) =
    ap (λ b. cond b (unshadowed h rest) (first ∷ unshadowed h rest)) (alike first.0)
    ∙ ap (λ (l : Constants). cond (has_name g first.0) l (first ∷ l))
    (unshadowed_alike h g alike rest)

pub captures_alike : (h g : List (List ℕ)) → ((n : List ℕ) → has_name h n ≡ has_name g n)
    → (names : TypedNames) (variables : Variables) (constants : Constants)
    → captures_after h names variables constants ≡ captures_after g names variables constants
captures_alike h g alike [] variables constants = unshadowed_alike h g alike constants
captures_alike h g alike (name ∷ names) [] constants = unshadowed_alike h g alike constants
captures_alike h g alike (name ∷ names) (variable ∷ variables) constants =
    ap (λ b. cond b (captures_after h names variables constants)
    (as_constant name.0 name.1 variable.1
    (captures_after (name.0 ∷ h) names variables constants))) (alike name.0)
    ∙ ap (λ (l : Constants). cond (has_name g name.0) l
    (as_constant name.0 name.1 variable.1
    (captures_after (name.0 ∷ h) names variables constants)))
    (captures_alike h g alike names variables constants)
    ∙ ap (λ (l : Constants). cond (has_name g name.0) (captures_after g names variables constants)
    (as_constant name.0 name.1 variable.1 l))
    (captures_alike (name.0 ∷ h) (name.0 ∷ g)
    (λ n. ap (λ b. bytes_eq name.0 n || b) (alike n)) names variables constants)

-- one more shadowed name, after others

or_same : (a b : Bool) → (a || b) ≡ (b || a)
or_same true true = refl
or_same true false = refl
or_same false true = refl
or_same false false = refl

has_last : (hidden : List (List ℕ)) (one n : List ℕ)
    → has_name (hidden ++ one ∷ []) n ≡ (has_name hidden n || bytes_eq one n)
has_last [] one n = or_same (bytes_eq one n) false
has_last (first ∷ rest) one n = ap (λ b. bytes_eq first n || b) (has_last rest one n)
    ∙ or_assoc (bytes_eq first n) (has_name rest n) (bytes_eq one n)
  where
    or_assoc : (a b c : Bool) → (a || (b || c)) ≡ ((a || b) || c)
    or_assoc true b c = refl
    or_assoc false b c = refl

has_twice : (hidden : List (List ℕ)) (one n : List ℕ) → has_name hidden one ≡ true
    → has_name (hidden ++ one ∷ []) n ≡ has_name hidden n
has_twice hidden one n there = has_last hidden one n
    ∙ by_value (bytes_eq one n) (bytes_eq-Decides one n).0
  where
    by_value : (t : Bool) → (t ≡ true → one ≡ n) → (has_name hidden n || t) ≡ has_name hidden n
    by_value true same = let here : has_name hidden n ≡ true =
        ap (has_name hidden) (sym (same refl)) ∙ there in rw here refl
    by_value false same = or_same (has_name hidden n) false

has_first : (hidden : List (List ℕ)) (one n : List ℕ)
    → has_name (hidden ++ one ∷ []) n ≡ has_name (one ∷ hidden) n
has_first hidden one n = has_last hidden one n ∙ or_same (has_name hidden n) (bytes_eq one n)

-- one more variable

dropped : {X : Type 0} (xs : List X) (i : ℕ) (x : X) → slice_get xs i ≡ Some x
    → drop i xs ≡ x ∷ drop (suc i) xs
dropped [] i x e = cc
dropped (first ∷ rest) zero x e = cc
dropped (first ∷ rest) (suc i) x e = dropped rest i x e

taken : (names : TypedNames) (i : ℕ) (x : List ℕ × ValueType) → slice_get names i ≡ Some x
    → take (suc i) (plain_names names) ≡ take i (plain_names names) ++ x.0 ∷ []
taken [] i x e = cc
taken (first ∷ rest) zero x e = let same : first ≡ x = cc in
    ap (λ (y : List ℕ × ValueType). y.0 ∷ []) same
taken (first ∷ rest) (suc i) x e = ap (λ (l : List (List ℕ)). first.0 ∷ l) (taken rest i x e)

-- what is seen of the outer variables, outside the first of which so many are
abbrev pub captures_at : TypedNames → Variables → ℕ → Constants → Constants
captures_at names variables number constants =
    captures_after (take (length names - number) (plain_names names))
    (drop (length names - number) names) (drop (length names - number) variables) constants

within : (names : TypedNames) (i : ℕ) (x : List ℕ × ValueType) → slice_get names i ≡ Some x
    → i < length names
within [] i x at = cc
within (first ∷ rest) zero x at = omega arith
within (first ∷ rest) (suc i) x at = let h : i < length rest = within rest i x at in omega arith

variable_at : (names : TypedNames) (variables : Variables) (i n : ℕ) (x : List ℕ × ValueType)
    → length names ≡ length variables → n + suc i ≡ length variables → slice_get names i ≡ Some x
    → (v : List ℕ × List ℤ) × (slice_get variables i ≡ Some v) × (cells_of variables n ≡ v.1)
variable_at [] variables i n x e place at = cc
variable_at (first ∷ rest) [] i n x e place at = cc
variable_at (first ∷ rest) (v ∷ vs) zero n x e place at =
    let same : length vs ≡ n = omega arith in (
      v,
      refl,
      ⊎_elim (λ h. ap (λ b. cond b v.1 (cells_of vs n)) h.0) (λ h. absurd (h.1 same))
          (eqb_tells (length vs) n),
    )
variable_at (first ∷ rest) (v ∷ vs) (suc i) n x e place at =
    let counts : length rest ≡ length vs = cc in
    let further : n + suc i ≡ length vs = omega arith in
    let inner = variable_at rest vs i n x counts further at in
    let apart : length vs ≡ n → ⊥ = λ same. absurd (omega arith) in (
      inner.0,
      inner.1,
      ⊎_elim (λ h. absurd (apart h.1))
          (λ h. ap (λ b. cond b v.1 (cells_of vs n)) h.0 ∙ inner.2) (eqb_tells (length vs) n),
    )

pub seen_more : (names : TypedNames) (variables : Variables) (number : ℕ) (x : List ℕ × ValueType)
    (constants : Constants) → length names ≡ length variables → number < length names
    → slice_get names (length names - suc number) ≡ Some x
    → captured names variables number (captures_at names variables number constants)
    ≡ captures_at names variables (suc number) constants
seen_more names variables number x constants counts below at =
    ap (λ o. captured_one (take inner (plain_names names)) variables number o
    (captures_at names variables number constants)) at
    ∙ by_value (has_name (take inner (plain_names names)) x.0) refl
  where
    inner : ℕ
    inner = length names - suc number

    next : length names - number ≡ suc inner
    next = omega arith

    found : (v : List ℕ × List ℤ) × (slice_get variables inner ≡ Some v)
        × (cells_of variables number ≡ v.1)
    found = variable_at names variables inner number x counts (omega (arith, counts)) at

    v : List ℕ × List ℤ
    v = found.0

    cells : cells_of variables number ≡ v.1
    cells = found.2

    hidden : List (List ℕ)
    hidden = take inner (plain_names names)

    outer_names : TypedNames
    outer_names = drop (suc inner) names

    outer : Variables
    outer = drop (suc inner) variables

    before : captures_at names variables number constants
        ≡ captures_after (hidden ++ x.0 ∷ []) outer_names outer constants
    before =
        ap (λ n. captures_after (take n (plain_names names)) (drop n names)
        (drop n variables) constants) next
        ∙ ap (λ h. captures_after h outer_names outer constants) (taken names inner x at)

    after : captures_at names variables (suc number) constants
        ≡ captures_after hidden (x ∷ outer_names) (v ∷ outer) constants
    after =
        ap (λ l. captures_after hidden l (drop inner variables) constants)
        (dropped names inner x at)
        ∙ ap (λ l. captures_after hidden (x ∷ outer_names) l constants)
        (dropped variables inner v found.1)

    by_value : (t : Bool) → has_name hidden x.0 ≡ t
        → cond t (captures_at names variables number constants)
        (as_constant x.0 x.1 (cells_of variables number)
        (captures_at names variables number constants))
        ≡ captures_at names variables (suc number) constants
    by_value true e =
        before ∙ captures_alike (hidden ++ x.0 ∷ []) hidden
        (λ n. has_twice hidden x.0 n e) outer_names outer constants
        ∙ sym (after ∙ ap (λ b. cond b (captures_after hidden outer_names outer constants)
        (as_constant x.0 x.1 v.1 (captures_after (x.0 ∷ hidden) outer_names outer constants))) e)
    by_value false e =
        ap (λ c. as_constant x.0 x.1 c (captures_at names variables number constants)) cells
        ∙ ap (as_constant x.0 x.1 v.1) (before
        ∙ captures_alike (hidden ++ x.0 ∷ []) (x.0 ∷ hidden)
        (has_first hidden x.0) outer_names outer constants)
        ∙ sym (after ∙ ap (λ b. cond b (captures_after hidden outer_names outer constants)
        (as_constant x.0 x.1 v.1 (captures_after (x.0 ∷ hidden) outer_names outer constants))) e)

-- before the first variable, and after the last one

pub seen_first : (names : TypedNames) (variables : Variables) (constants : Constants)
    → length names ≡ length variables → captures_at names variables 0 constants
    ≡ unshadowed (plain_names names) constants
seen_first names variables constants counts =
    let all : length names - 0 ≡ length names = omega arith in
    ap (λ n. captures_after (take n (plain_names names)) (drop n names)
    (drop n variables) constants) all
    ∙ ap (λ l. captures_after (take (length names) (plain_names names)) l
    (drop (length names) variables) constants) (drop_all names)
    ∙ ap (λ l. unshadowed l constants) (ap (λ n. take n (plain_names names))
    (sym (length_names names)) ∙ take_whole (plain_names names))
  where
    length_names : (l : TypedNames) → length (plain_names l) ≡ length l
    length_names [] = refl
    length_names (first ∷ rest) = ap suc (length_names rest)

    drop_all : (l : TypedNames) → drop (length l) l ≡ []
    drop_all [] = refl
    drop_all (first ∷ rest) = drop_all rest

    take_whole : (l : List (List ℕ)) → take (length l) l ≡ l
    take_whole [] = refl
    take_whole (first ∷ rest) = ap (λ (l : List (List ℕ)). first ∷ l) (take_whole rest)

pub seen_last : (names : TypedNames) (variables : Variables) (constants : Constants)
    → captures_at names variables (length names) constants
    ≡ captures_after [] names variables constants
seen_last names variables constants =
    let none : length names - length names ≡ 0 = omega arith in
    ap (λ n. captures_after (take n (plain_names names)) (drop n names)
    (drop n variables) constants) none

-- one more constant that isn't shadowed
pub unshadowed_kept : (hidden : List (List ℕ)) (one : List ℕ × ℤ) (constants : Constants)
    → has_name hidden one.0 ≡ false → unshadowed hidden (one ∷ constants) ≡ one
    ∷ unshadowed hidden constants
unshadowed_kept hidden one constants e = ap
    (λ b. cond b (unshadowed hidden constants) (one ∷ unshadowed hidden constants)) e

pub unshadowed_lost : (hidden : List (List ℕ)) (one : List ℕ × ℤ) (constants : Constants)
    → has_name hidden one.0 ≡ true → unshadowed hidden (one ∷ constants)
    ≡ unshadowed hidden constants
unshadowed_lost hidden one constants e = ap
    (λ b. cond b (unshadowed hidden constants) (one ∷ unshadowed hidden constants)) e

item_at : (names : TypedNames) (i : ℕ) → i < length names
    → (x : List ℕ × ValueType) × (slice_get names i ≡ Some x)
item_at [] i below = absurd (omega arith)
item_at (first ∷ rest) zero below = (first, refl)
item_at (first ∷ rest) (suc i) below = item_at rest i (omega arith)

-- one more variable of those that there are
pub captures_next : (names : TypedNames) (variables : Variables) (number : ℕ)
    (constants : Constants) → length names ≡ length variables → number < length names
    → captured names variables number (captures_at names variables number constants)
    ≡ captures_at names variables (suc number) constants
captures_next names variables number constants counts below =
    let x = item_at names (length names - suc number) (omega arith) in
    seen_more names variables number x.0 constants counts below x.1

some_there : {A : Type 0} (xs : List A) (k : ℕ) → k < length xs → slice_get xs k ≡ None → ⊥
some_there [] k below e = omega (arith, below)
some_there (x ∷ xs) zero below e = cc
some_there (x ∷ xs) (suc k) below e =
    let inside : k < length xs = omega (arith, below) in some_there xs k inside e

-- the constants from one on, counted from the last
further_constants : (constants : Constants) (number : ℕ) (one : List ℕ × ℤ)
    → slice_get constants (length constants - suc number) ≡ Some one
    → number < length constants → drop (length constants - (number + 1)) constants
    ≡ one ∷ drop (length constants - number) constants
further_constants constants number one at below =
    let k : ℕ = length constants - suc number in
    let same : length constants - (number + 1) ≡ k = omega arith in
    let next : suc k ≡ length constants - number = omega (arith, below) in
    let inside : k < length constants = omega (arith, below) in
    ap (λ n. drop n constants) same
    ∙ drop-cons constants k one inside
    ∙ ap (λ x. x ∷ drop (suc k) constants) (get_or_from_slice_get constants k one one at)
    ∙ ap (λ n. one ∷ drop n constants) next

-- the constants that are left of those from one on
pub unshadowed_next : (hidden : List (List ℕ)) (constants : Constants) (number : ℕ)
    → number < length constants
    → unshadowed_one hidden (slice_get constants (length constants - suc number))
    (unshadowed hidden (drop (length constants - number) constants))
    ≡ unshadowed hidden (drop (length constants - (number + 1)) constants)
unshadowed_next hidden constants number below =
    by_place (slice_get constants (length constants - suc number)) refl
  where
    left : Constants
    left = unshadowed hidden (drop (length constants - number) constants)

    by_place : (found : Option (List ℕ × ℤ))
        → slice_get constants (length constants - suc number) ≡ found
        → unshadowed_one hidden found left
        ≡ unshadowed hidden (drop (length constants - (number + 1)) constants)
    by_place None at =
        let inside : length constants - suc number < length constants = omega (arith, below) in
        absurd (some_there constants (length constants - suc number) inside at)
    by_place (Some one) at =
        sym (ap (unshadowed hidden) (further_constants constants number one at below))
