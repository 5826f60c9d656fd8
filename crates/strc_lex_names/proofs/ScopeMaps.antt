-- Names with a value each: what a scope keeps, as one list.
use Rattle.std.proofs.Common.{◌≡◌, ℕ, zero, suc, ◌-◌, ◌<◌, Bool, true, false, List, [], ◌∷◌, ◌++◌}
use Rattle.std.proofs.Common.{length, drop, take, set, reverse, get_or, Some, None, cond, refl, sym}
use Rattle.std.proofs.Common.{ap, ◌∙◌, arith}
use Rattle.std.specs.Prelude.{bytes_eq, slice_get}
use Rattle.std.proofs.Math.ListN.{get_or-append}
use Rattle.std.proofs.Math.Seq.{get_or-append_seam, set-append_seam}
use Rattle.std.proofs.lemmas.List.{length-reverse, reverse-append, reverse-reverse, set-append_left}
use Rattle.strc_lex_names.specs.Names.{number_named, with_values, plain_names, value_named}
use Rattle.strc_lex_names.specs.Names.{with_value}
use Rattle.strc_lex_names.proofs.Scopes.{number_named-below, reverse-take_of}

-- names beside as many values
pub plain-with_values : {T : Type 0} (names : List (List ℕ)) (values : List T)
    → length values ≡ length names → plain_names (with_values names values) ≡ names
plain-with_values [] values e = refl
plain-with_values (name ∷ names) [] e = cc
plain-with_values (name ∷ names) (value ∷ values) e =
    ap (λ l. name ∷ l) (plain-with_values names values cc)

pub length-with_values : {T : Type 0} (names : List (List ℕ)) (values : List T)
    → length values ≡ length names → length (with_values names values) ≡ length names
length-with_values [] values e = refl
length-with_values (name ∷ names) [] e = e
length-with_values (name ∷ names) (value ∷ values) e = ap suc (length-with_values names values cc)

pub drop-with_values : {T : Type 0} (n : ℕ) (names : List (List ℕ)) (values : List T)
    → length values ≡ length names
    → with_values (drop n names) (drop n values) ≡ drop n (with_values names values)
drop-with_values zero names values e = refl
drop-with_values (suc n) [] values e = refl
drop-with_values (suc n) (name ∷ names) [] e = cc
drop-with_values (suc n) (name ∷ names) (value ∷ values) e = drop-with_values n names values cc

-- how many names there are, by the values in order of declaration
pub count-with_values : {T : Type 0} (names : List (List ℕ)) (values : List T)
    → length values ≡ length names → length (with_values names (reverse values)) ≡ length names
count-with_values names values e =
    length-with_values names (reverse values) (length-reverse values ∙ e)

value_at : {T : Type 0} (names : List (List ℕ)) (values : List T) (name : List ℕ) (number : ℕ)
    (d : T) → length values ≡ length names → number_named names name ≡ Some number
    → value_named (with_values names values) name ≡ Some (get_or (reverse values) number d)
value_at [] values name number d e at = cc
value_at (first ∷ rest) [] name number d e at = cc
value_at {T = T} (first ∷ rest) (value ∷ values) name number d e at =
    by_value (bytes_eq first name) at (value_at rest values name number d same)
    (number_named-below rest name number)
    ∙ ap (λ l. Some (get_or l number d)) (sym (reverse-append (value ∷ []) values))
  where
    same : length values ≡ length rest
    same = cc

    by_value : (t : Bool) → cond t (Some (length rest)) (number_named rest name) ≡ Some number
        → (number_named rest name ≡ Some number
        → value_named (with_values rest values) name ≡ Some (get_or (reverse values) number d))
        → (number_named rest name ≡ Some number → number < length rest)
        → cond t (Some value) (value_named (with_values rest values) name)
        ≡ Some (get_or (reverse values ++ value ∷ []) number d)
    by_value true at inner below =
        let here : length rest ≡ number = cc in
        let place : length (reverse values) ≡ number = length-reverse values ∙ same ∙ here in
        ap Some (sym (get_or-append_seam (reverse values) value [] d))
        ∙ ap (λ n. Some (get_or (reverse values ++ value ∷ []) n d)) place
    by_value false at inner below =
        let lt : number < length rest = below at in
        let in_front : number < length (reverse values) =
        omega (arith, length-reverse values, same) in
        inner at ∙ ap Some (sym (get_or-append (reverse values) (value ∷ []) d number in_front))

-- the value of a name is at the name's number
pub value_named-number : {T : Type 0} (names : List (List ℕ)) (values : List T) (name : List ℕ)
    (number : ℕ) (value : T) → length values ≡ length names → number_named names name ≡ Some number
    → value ≡ get_or values number value
    → Some value ≡ value_named (with_values names (reverse values)) name
value_named-number names values name number value e at is =
    ap Some is ∙ ap (λ l. Some (get_or l number value)) (sym (reverse-reverse values))
    ∙ sym (value_at names (reverse values) name number value (length-reverse values ∙ e) at)

pub value_named-none : {T : Type 0} (names : List (List ℕ)) (values : List T) (name : List ℕ)
    → length values ≡ length names → number_named names name ≡ None
    → None ≡ value_named (with_values names values) name
value_named-none [] values name e at = refl
value_named-none (first ∷ rest) [] name e at = refl
value_named-none {T = T} (first ∷ rest) (value ∷ values) name e at =
    by_value (bytes_eq first name) at (value_named-none rest values name cc)
  where
    by_value : (t : Bool) → cond t (Some (length rest)) (number_named rest name) ≡ None
        → (number_named rest name ≡ None → None ≡ value_named (with_values rest values) name)
        → None ≡ cond t (Some value) (value_named (with_values rest values) name)
    by_value true at inner = cc
    by_value false at inner = inner at

-- the names that are left
pub leave-with_values : {T : Type 0} (names : List (List ℕ)) (values : List T) (start : ℕ)
    → length values ≡ length names
    → with_values (drop (length names - start) names) (reverse (take start values))
    ≡ drop (length (with_values names (reverse values)) - start)
    (with_values names (reverse values))
leave-with_values names values start e =
    let turned : length (reverse values) ≡ length names = length-reverse values ∙ e in
    ap (with_values (drop (length names - start) names))
    (reverse-take_of values start ∙ ap (λ n. drop (n - start) (reverse values)) turned)
    ∙ drop-with_values (length names - start) names (reverse values) turned
    ∙ ap (λ n. drop (n - start) (with_values names (reverse values)))
    (sym (length-with_values names (reverse values) turned))

-- a name and its value, by how many are outside them
pub numbered_value : {T : Type 0} (names : List (List ℕ)) (values : List T) (i : ℕ)
    (name : List ℕ) (value : T) → slice_get names i ≡ Some name → slice_get values i ≡ Some value
    → slice_get (with_values names values) i ≡ Some (record { 0 = name; 1 = value })
numbered_value [] values i name value e at = cc
numbered_value (first ∷ rest) [] i name value e at = cc
numbered_value (first ∷ rest) (other ∷ values) zero name value e at = cc
numbered_value (first ∷ rest) (other ∷ values) (suc i) name value e at =
    numbered_value rest values i name value e at

-- a value is written at its name's number
written_at : {T : Type 0} (names : List (List ℕ)) (values : List T) (name : List ℕ) (number : ℕ)
    (value : T) → length values ≡ length names → number_named names name ≡ Some number
    → with_values names (reverse (set (reverse values) number value))
    ≡ with_value (with_values names values) name value
written_at [] values name number value e at = cc
written_at (first ∷ rest) [] name number value e at = cc
written_at {T = T} (first ∷ rest) (old ∷ values) name number value e at =
    ap (λ l. with_values (first ∷ rest) (reverse (set l number value)))
    (reverse-append (old ∷ []) values)
    ∙ by_value (bytes_eq first name) at (written_at rest values name number value same)
    (number_named-below rest name number)
  where
    same : length values ≡ length rest
    same = cc

    by_value : (t : Bool) → cond t (Some (length rest)) (number_named rest name) ≡ Some number
        → (number_named rest name ≡ Some number
        → with_values rest (reverse (set (reverse values) number value))
        ≡ with_value (with_values rest values) name value)
        → (number_named rest name ≡ Some number → number < length rest)
        → with_values (first ∷ rest) (reverse (set (reverse values ++ old ∷ []) number value))
        ≡ cond t (record { 0 = first; 1 = value } ∷ with_values rest values)
        (record { 0 = first; 1 = old } ∷ with_value (with_values rest values) name value)
    by_value true at inner below =
        let here : length rest ≡ number = cc in
        let place : number ≡ length (reverse values) =
        sym (length-reverse values ∙ same ∙ here) in
        ap (λ n. with_values (first ∷ rest) (reverse (set (reverse values ++ old ∷ []) n value)))
        place
        ∙ ap (λ l. with_values (first ∷ rest) (reverse l))
        (set-append_seam (reverse values) old [] value)
        ∙ ap (with_values (first ∷ rest)) (reverse-append (reverse values) (value ∷ []))
        ∙ ap (λ l. record { 0 = first; 1 = value } ∷ with_values rest l) (reverse-reverse values)
    by_value false at inner below =
        let lt : number < length rest = below at in
        let in_front : number < length (reverse values) =
        omega (arith, length-reverse values, same) in
        ap (λ l. with_values (first ∷ rest) (reverse l))
        (set-append_left (reverse values) (old ∷ []) number value in_front)
        ∙ ap (with_values (first ∷ rest))
        (reverse-append (set (reverse values) number value) (old ∷ []))
        ∙ ap (λ l. record { 0 = first; 1 = old } ∷ l) (inner at)

pub with_value-number : {T : Type 0} (names : List (List ℕ)) (values : List T) (name : List ℕ)
    (number : ℕ) (value : T) → length values ≡ length names → number_named names name ≡ Some number
    → with_values names (reverse (set values number value))
    ≡ with_value (with_values names (reverse values)) name value
with_value-number names values name number value e at =
    ap (λ l. with_values names (reverse (set l number value))) (sym (reverse-reverse values))
    ∙ written_at names (reverse values) name number value (length-reverse values ∙ e) at

-- where there is no such name, nothing changes
pub with_value-none : {T : Type 0} (names : List (List ℕ)) (values : List T) (name : List ℕ)
    (value : T) → number_named names name ≡ None
    → with_values names values ≡ with_value (with_values names values) name value
with_value-none [] values name value at = refl
with_value-none (first ∷ rest) [] name value at = refl
with_value-none {T = T} (first ∷ rest) (old ∷ values) name value at =
    by_value (bytes_eq first name) at (with_value-none rest values name value)
  where
    by_value : (t : Bool) → cond t (Some (length rest)) (number_named rest name) ≡ None
        → (number_named rest name ≡ None
        → with_values rest values ≡ with_value (with_values rest values) name value)
        → record { 0 = first; 1 = old } ∷ with_values rest values
        ≡ cond t (record { 0 = first; 1 = value } ∷ with_values rest values)
        (record { 0 = first; 1 = old } ∷ with_value (with_values rest values) name value)
    by_value true at inner = cc
    by_value false at inner = ap (λ l. record { 0 = first; 1 = old } ∷ l) (inner at)
