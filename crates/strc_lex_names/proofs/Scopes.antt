-- Names in a list, found from its end.
use Rattle.std.proofs.Common.{◌≡◌, ℕ, zero, suc, ◌+◌, ◌-◌, ◌<◌, ◌≤◌, Bool, true, false, ◌||◌}
use Rattle.std.proofs.Common.{List, [], ◌∷◌, length, take, drop, reverse, get_or, Option, Some}
use Rattle.std.proofs.Common.{None, IsSome, ℤ, refl, sym, ap, ◌∙◌, ⊎_elim, arith, subst, cond}
use Rattle.std.specs.Prelude.{bytes_eq}
use Rattle.std.proofs.lemmas.List.{take_more, take-append-drop, reverse-append, length-reverse}
use Rattle.std.proofs.lemmas.List.{length-drop, take_all}
use Rattle.std.proofs.lemmas.Bool.{le-leb, lt-leb}
use Rattle.std.proofs.lemmas.Bool.Decides.{leb_tells}
use Rattle.std.proofs.Math.Dec.{leb}
use Rattle.std.proofs.Math.Seq.{drop-append_seam}
use Rattle.std.proofs.lemmas.Slice.Eq.{bytes_eq-Decides}
use Rattle.strc_lex_names.specs.Names.{has_name, value_named, number_named}
use Rattle.strc_lex_names.specs.Scopes.{names_in, IsScope}
use Rattle.strc_lex_names.specs.Tables.{IsUpdated}
use Rattle.strc_lex_names.specs.declared.scope.Declared.{Declared}

-- one more item of a list, seen from its end
pub reverse-take_more : {X : Type 0} (xs : List X) (i : ℕ) (d : X) → i < length xs
    → reverse (take (i + 1) xs) ≡ get_or xs i d ∷ reverse (take i xs)
reverse-take_more xs i d h = ap reverse (take_more xs i d h)
    ∙ reverse-append (take i xs) (get_or xs i d ∷ [])

-- the bytes of one name
pub bytes_eq_same : (a b : List ℕ) → a ≡ b → bytes_eq a b ≡ true
bytes_eq_same a b e = (bytes_eq-Decides a b).1 e

-- the bytes of two names
pub bytes_eq_other : (a b : List ℕ) → (a ≡ b → ⊥) → bytes_eq a b ≡ false
bytes_eq_other a b ne = by_value (bytes_eq a b) (bytes_eq-Decides a b).0
  where
    by_value : (t : Bool) → (t ≡ true → a ≡ b) → t ≡ false
    by_value true h = absurd (ne (h refl))
    by_value false h = refl

pub value_named_here : (pairs : List (List ℕ × ℤ)) (i : ℕ) (name : List ℕ) (d : List ℕ × ℤ)
    → i < length pairs → (get_or pairs i d).0 ≡ name
    → value_named (reverse (take (i + 1) pairs)) name ≡ Some (get_or pairs i d).1
value_named_here pairs i name d h e =
    ap (λ l. value_named l name) (reverse-take_more pairs i d h)
    ∙ ap (λ t. cond t (Some (get_or pairs i d).1) (value_named (reverse (take i pairs)) name))
    (bytes_eq_same _ name e)

pub value_named_below : (pairs : List (List ℕ × ℤ)) (i : ℕ) (name : List ℕ) (d : List ℕ × ℤ)
    → i < length pairs → ((get_or pairs i d).0 ≡ name → ⊥)
    → value_named (reverse (take (i + 1) pairs)) name ≡ value_named (reverse (take i pairs)) name
value_named_below pairs i name d h ne =
    ap (λ l. value_named l name) (reverse-take_more pairs i d h)
    ∙ ap (λ t. cond t (Some (get_or pairs i d).1) (value_named (reverse (take i pairs)) name))
    (bytes_eq_other _ name ne)

pub value_named_found : (pairs : List (List ℕ × ℤ)) (i : ℕ) (name : List ℕ) (x : List ℕ × ℤ) → 0 < i
    → i ≤ length pairs → x ≡ get_or pairs (i - 1) x → x.0 ≡ name
    → value_named (reverse (take i pairs)) name ≡ Some x.1
value_named_found pairs i name x some le at same =
    let e : i - 1 + 1 ≡ i = omega arith in
    let lt : i - 1 < length pairs = omega arith in
    subst (λ n. value_named (reverse (take n pairs)) name ≡ Some x.1) e
    (value_named_here pairs (i - 1) name x lt (sym (ap (λ p. p.0) at) ∙ same)
    ∙ ap (λ p. Some p.1) (sym at))

pub value_named_passed : (pairs : List (List ℕ × ℤ)) (i : ℕ) (name : List ℕ) (x : List ℕ × ℤ)
    → 0 < i → i ≤ length pairs → x ≡ get_or pairs (i - 1) x → (x.0 ≡ name → ⊥)
    → value_named (reverse (take (i - 1) pairs)) name ≡ value_named (reverse (take i pairs)) name
value_named_passed pairs i name x some le at other =
    let e : i - 1 + 1 ≡ i = omega arith in
    let lt : i - 1 < length pairs = omega arith in
    subst (λ n. value_named (reverse (take (i - 1) pairs)) name
    ≡ value_named (reverse (take n pairs)) name) e
    (sym (value_named_below pairs (i - 1) name x lt (λ h. other (ap (λ p. p.0) at ∙ h))))

-- the names that are left, seen from the end
pub reverse-take_of : {X : Type 0} (xs : List X) (n : ℕ)
    → reverse (take n xs) ≡ drop (length (reverse xs) - n) (reverse xs)
reverse-take_of xs n =
    let kept = take n xs in
    let left = drop n xs in
    let e : length (reverse xs) - n ≡ length (reverse left) =
    omega (arith, length-reverse xs, length-reverse left, length-drop n xs) in
    sym (ap (λ k. drop k (reverse xs)) e ∙ ap (λ l. drop (length (reverse left)) (reverse l))
    (sym (take-append-drop n xs)) ∙ ap (drop (length (reverse left))) (reverse-append kept left)
    ∙ drop-append_seam (reverse left) (reverse kept))

-- the slot of a name is below the number of names
pub number_named-below : (names : List (List ℕ)) (name : List ℕ) (slot : ℕ)
    → number_named names name ≡ Some slot → slot < length names
number_named-below [] name slot e = cc
number_named-below (first ∷ rest) name slot e =
    by_value (bytes_eq first name) (number_named-below rest name slot) e
  where
    by_value : (t : Bool) → (number_named rest name ≡ Some slot → slot < length rest)
        → cond t (Some (length rest)) (number_named rest name) ≡ Some slot
        → slot < suc (length rest)
    by_value true below e = let here : length rest ≡ slot = cc in omega arith
    by_value false below e = let h : slot < length rest = below e in omega arith

-- whether a name is there from a place on, by the slot of its innermost variable
pub has_name-slot : (names : List (List ℕ)) (name : List ℕ) (start slot : ℕ)
    → number_named names name ≡ Some slot
    → leb start slot ≡ has_name (take (length names - start) names) name
has_name-slot [] name start slot e = cc
has_name-slot (first ∷ rest) name start slot e =
    ⊎_elim (λ h. within h.1 (has_name-slot rest name start slot)) (λ h. past h.1)
    (leb_tells start (length rest))
  where
    by_value : (t : Bool) → cond t (Some (length rest)) (number_named rest name) ≡ Some slot
        → start ≤ length rest → (number_named rest name ≡ Some slot
        → leb start slot ≡ has_name (take (length rest - start) rest) name)
        → leb start slot ≡ (t || has_name (take (length rest - start) rest) name)
    by_value true e h inner = let here : length rest ≡ slot = cc in
        le-leb start slot (subst (λ n. start ≤ n) here h)
    by_value false e h inner = inner e

    within : start ≤ length rest → (number_named rest name ≡ Some slot
        → leb start slot ≡ has_name (take (length rest - start) rest) name)
        → leb start slot ≡ has_name (take (suc (length rest) - start) (first ∷ rest)) name
    within h inner = let m : suc (length rest) - start ≡ suc (length rest - start) = omega arith in
        rw m (by_value (bytes_eq first name) e h inner)

    past : length rest < start → leb start slot
        ≡ has_name (take (suc (length rest) - start) (first ∷ rest)) name
    past h =
        let m : suc (length rest) - start ≡ 0 = omega arith in
        let below : slot < suc (length rest) = number_named-below (first ∷ rest) name slot e in
        let out : slot < start = omega arith in
        rw m (lt-leb start slot out)

pub has_name-none : (names : List (List ℕ)) (name : List ℕ) (n : ℕ) → number_named names name ≡ None
    → false ≡ has_name (take n names) name
has_name-none [] name zero e = refl
has_name-none [] name (suc n) e = refl
has_name-none (first ∷ rest) name zero e = refl
has_name-none (first ∷ rest) name (suc n) e =
    by_value (bytes_eq first name) (has_name-none rest name n) e
  where
    by_value : (t : Bool) → (number_named rest name ≡ None → false ≡ has_name (take n rest) name)
        → cond t (Some (length rest)) (number_named rest name) ≡ None
        → false ≡ (t || has_name (take n rest) name)
    by_value true inner e = cc
    by_value false inner e = inner e

pub length-names_in : (seen : List Declared) → length (names_in seen) ≡ length seen
length-names_in [] = refl
length-names_in (first ∷ rest) = ap suc (length-names_in rest)

pub drop-names_in : (n : ℕ) (seen : List Declared) → names_in (drop n seen) ≡ drop n (names_in seen)
drop-names_in zero seen = refl
drop-names_in (suc n) [] = refl
drop-names_in (suc n) (first ∷ rest) = drop-names_in n rest

-- one more name
pub IsScope-declare : (seen : List Declared) (old new : List ℕ → Option ℕ) (last : Declared)
    (slot : ℕ)
    → slot ≡ length seen → last.shadows ≡ old last.name.items
    → IsScope seen old → IsUpdated old last.name.items (Some slot) new → IsScope (last ∷ seen) new
unfolding IsScope
IsScope-declare seen old new last slot place shadows scope change = record {
  shadowed = (shadows ∙ scope.innermost last.name.items, scope.shadowed);
  innermost = λ name. change name ∙ ap (λ slot. cond (bytes_eq last.name.items name) (Some slot)
      (old name)) (place ∙ sym (length-names_in seen))
      ∙ ap (cond (bytes_eq last.name.items name) (Some (length (names_in seen))))
      (scope.innermost name);
}

-- one name less
pub IsScope-forget : (seen : List Declared) (old new : List ℕ → Option ℕ) (last : Declared)
    → IsScope (last ∷ seen) old → IsUpdated old last.name.items last.shadows new → IsScope seen new
unfolding IsScope
IsScope-forget seen old new last scope change = record {
  shadowed = scope.shadowed.1;
  innermost = λ name. change name ∙ shown name (bytes_eq last.name.items name) scope.shadowed.0
      (bytes_eq-Decides last.name.items name).0 (scope.innermost name);
}
  where
    shown : (name : List ℕ) (t : Bool) → last.shadows ≡ number_named (names_in seen) last.name.items
        → (t ≡ true → last.name.items ≡ name)
        → old name ≡ cond t (Some (length (names_in seen))) (number_named (names_in seen) name)
        → cond t last.shadows (old name) ≡ number_named (names_in seen) name
    shown name true shadowed same e = shadowed ∙ ap (number_named (names_in seen)) (same refl)
    shown name false shadowed same e = e

-- the innermost name is in the table
pub IsScope-there : (seen : List Declared) (table : List ℕ → Option ℕ) (last : Declared)
    → IsScope (last ∷ seen) table → IsSome (table last.name.items)
unfolding IsScope
IsScope-there seen table last scope =
    let e = scope.innermost last.name.items
    ∙ ap (λ t. cond t (Some (length (names_in seen)))
    (number_named (names_in seen) last.name.items))
    (bytes_eq_same last.name.items last.name.items refl) in
    rw e refl

-- the names that are left
pub names_in-left : (xs ys : List Declared) (start : ℕ) → length ys ≤ start
    → take start ys ≡ take start xs → names_in (reverse ys)
    ≡ drop (length (names_in (reverse xs)) - start) (names_in (reverse xs))
names_in-left xs ys start le same =
    let left : ys ≡ take start xs = sym (take_all start ys le) ∙ same in
    ap (λ l. names_in (reverse l)) left
    ∙ ap names_in (reverse-take_of xs start)
    ∙ drop-names_in (length (reverse xs) - start) (reverse xs)
    ∙ ap (λ n. drop (n - start) (names_in (reverse xs))) (sym (length-names_in (reverse xs)))
