-- Names that occur twice among others.
use Rattle.std.proofs.Common.{◌≡◌, ℕ, suc, ◌+◌, ◌<◌, ◌≤◌, Bool, true, false, ◌||◌, List, [], ◌∷◌}
use Rattle.std.proofs.Common.{length, take, drop, get_or, ◌-◌, refl, sym, ap, ◌∙◌, arith}
use Rattle.std.proofs.Math.Seq.{drop-cons}
use Rattle.std.proofs.Math.ListN.{drop_of_length-le}
use Rattle.std.specs.Prelude.{bytes_eq}
use Rattle.std.proofs.lemmas.Slice.Eq.{bytes_eq-Decides}
use Rattle.strc_lex_names.specs.Names.{has_name, plain_names}
use Rattle.strc_work_meaning.specs.Typing.{TypedNames}
use Rattle.strc_elab_statements.specs.Texts.{is_doubled}

-- whether one of these names is an earlier one, or occurs twice among them
abbrev pub doubled_after : (earlier names : List (List ℕ)) → Bool
doubled_after earlier [] = false
doubled_after earlier (first ∷ rest) = has_name earlier first
    || doubled_after (first ∷ earlier) rest

-- whether one of these names is among the others
abbrev pub any_name : (others names : List (List ℕ)) → Bool
any_name others [] = false
any_name others (first ∷ rest) = has_name others first || any_name others rest

or_over : (a b c : Bool) → ((a || b) || c) ≡ (a || (b || c))
or_over true b c = refl
or_over false b c = refl

or_swap : (a b c d : Bool) → ((a || b) || (c || d)) ≡ ((a || c) || (b || d))
or_swap true b c d = refl
or_swap false true true d = refl
or_swap false true false d = refl
or_swap false false c d = refl

same_either_way : (a b : List ℕ) → bytes_eq a b ≡ bytes_eq b a
same_either_way a b = by_value (bytes_eq a b) (bytes_eq b a) (bytes_eq-Decides a b).0
    (bytes_eq-Decides b a).0 (bytes_eq-Decides a b).1 (bytes_eq-Decides b a).1
  where
    by_value : (t u : Bool) → (t ≡ true → a ≡ b) → (u ≡ true → b ≡ a) → (a ≡ b → t ≡ true)
        → (b ≡ a → u ≡ true) → t ≡ u
    by_value true true f g h k = refl
    by_value false false f g h k = refl
    by_value true false f g h k = sym (k (sym (f refl)))
    by_value false true f g h k = h (sym (g refl))

any_more : (first : List ℕ) (others names : List (List ℕ))
    → any_name (first ∷ others) names ≡ (has_name names first || any_name others names)
any_more first others [] = refl
any_more first others (name ∷ names) =
    ap (λ b. (bytes_eq first name || has_name others name) || b) (any_more first others names)
    ∙ or_swap (bytes_eq first name) (has_name others name) (has_name names first)
    (any_name others names)
    ∙ ap (λ b. (b || has_name names first) || (has_name others name || any_name others names))
    (same_either_way first name)

pub doubled_split : (earlier names : List (List ℕ))
    → doubled_after earlier names ≡ (any_name earlier names || is_doubled names)
doubled_split earlier [] = refl
doubled_split earlier (first ∷ rest) =
    ap (λ b. has_name earlier first || b) (doubled_split (first ∷ earlier) rest)
    ∙ ap (λ b. has_name earlier first || (b || is_doubled rest)) (any_more first earlier rest)
    ∙ shuffle (has_name earlier first) (has_name rest first) (any_name earlier rest)
    (is_doubled rest)
  where
    shuffle : (a b c d : Bool) → (a || ((b || c) || d)) ≡ ((a || c) || (b || d))
    shuffle true b c d = refl
    shuffle false true true d = refl
    shuffle false true false d = refl
    shuffle false false c d = refl

any_none : (names : List (List ℕ)) → any_name [] names ≡ false
any_none [] = refl
any_none (first ∷ rest) = any_none rest

-- none is earlier at first
pub doubled_at_first : (names : List (List ℕ)) → doubled_after [] names ≡ is_doubled names
doubled_at_first names = doubled_split [] names ∙ ap (λ b. b || is_doubled names) (any_none names)

-- the next name

pub doubled_here : (earlier names : List (List ℕ)) (i : ℕ) (name : List ℕ) → i < length names
    → name ≡ get_or names i name → has_name earlier name ≡ true
    → doubled_after earlier (drop i names) ≡ true
doubled_here earlier names i name below at there =
    ap (doubled_after earlier) (drop-cons names i name below)
    ∙ ap (λ n. has_name earlier n || doubled_after (n ∷ earlier) (drop (suc i) names)) (sym at)
    ∙ ap (λ b. b || doubled_after (name ∷ earlier) (drop (suc i) names)) there

pub doubled_further : (earlier names : List (List ℕ)) (i : ℕ) (name : List ℕ) → i < length names
    → name ≡ get_or names i name → has_name earlier name ≡ false
    → doubled_after earlier (drop i names) ≡ doubled_after (name ∷ earlier) (drop (i + 1) names)
doubled_further earlier names i name below at there =
    let next : suc i ≡ i + 1 = omega arith in
    ap (doubled_after earlier) (drop-cons names i name below)
    ∙ ap (λ n. has_name earlier n || doubled_after (n ∷ earlier) (drop (suc i) names)) (sym at)
    ∙ ap (λ b. b || doubled_after (name ∷ earlier) (drop (suc i) names)) there
    ∙ ap (λ n. doubled_after (name ∷ earlier) (drop n names)) next

pub doubled_no_more : (earlier names : List (List ℕ)) (i : ℕ) → length names ≤ i
    → doubled_after earlier (drop i names) ≡ false
doubled_no_more earlier names i over = ap (doubled_after earlier) (drop_of_length-le names over)

-- all names are those from the first one on
pub all_names : (names : TypedNames) → take (length names - 0) (plain_names names)
    ≡ plain_names names
all_names names = let all : length names - 0 ≡ length names = omega arith in
    ap (λ n. take n (plain_names names)) all ∙ whole names
  where
    whole : (l : TypedNames) → take (length l) (plain_names l) ≡ plain_names l
    whole [] = refl
    whole (first ∷ rest) = ap (λ (l : List (List ℕ)). first.0 ∷ l) (whole rest)
