-- What a call leaves as it was, whatever it gives.
use Rattle.std.proofs.Common.{◌≡◌, ℕ, zero, suc, ◌+◌, ◌-◌, ◌≤◌, ℤ, Bool, true, false, cond, ◌||◌}
use Rattle.std.proofs.Common.{List, [], ◌∷◌, ◌++◌, length, take, drop, map, bytes_eq, refl, sym, ap}
use Rattle.std.proofs.Common.{◌∙◌, arith, length-append}
use Rattle.std.proofs.lemmas.Bool.{false≢true}
use Rattle.strc_work_meaning.specs.Scoping.{Scope, is_declared}
use Rattle.strc_work_meaning.specs.Firing.{Variables, Store, Setting, Called, cells_named}
use Rattle.strc_work_meaning.specs.Firing.{values_of}
use Rattle.strc_work_meaning.specs.Firing.{fields_in, locals_in, refilled, revalued, after_call}

-- the names of variables, with how many cells each has
abbrev pub scope_of : Variables → Scope
scope_of = map (λ v. record { 0 = v.0; 1 = length v.1 })

pub length-refilled : (cells values : List ℤ) → length (refilled cells values) ≡ length cells
length-refilled [] values = refl
length-refilled (cell ∷ cells) [] = refl
length-refilled (cell ∷ cells) (value ∷ values) = ap suc (length-refilled cells values)

pub length-revalued : (variables : Variables) (values : List ℤ)
    → length (revalued variables values) ≡ length variables
length-revalued [] values = refl
length-revalued (first ∷ rest) values = ap suc (length-revalued rest values)

-- names and numbers of cells stay
pub scope_of-revalued : (variables : Variables) (values : List ℤ)
    → scope_of (revalued variables values) ≡ scope_of variables
scope_of-revalued [] values = refl
scope_of-revalued (first ∷ rest) values =
    ap (λ n. record { 0 = first.0; 1 = n } ∷ scope_of (revalued rest values))
    (length-refilled first.1 (drop (length (values_of rest)) values))
    ∙ ap (λ l. record { 0 = first.0; 1 = length first.1 } ∷ l) (scope_of-revalued rest values)

-- the same, where the outer ones of the variables alone get new values
pub scope_of-outer : (n : ℕ) (variables : Variables) (values : List ℤ)
    → scope_of (take n variables ++ revalued (drop n variables) values) ≡ scope_of variables
scope_of-outer zero variables values = scope_of-revalued variables values
scope_of-outer (suc n) [] values = refl
scope_of-outer (suc n) (first ∷ rest) values =
    ap (λ l. record { 0 = first.0; 1 = length first.1 } ∷ l) (scope_of-outer n rest values)

length-outer : (n : ℕ) (variables : Variables) (values : List ℤ)
    → length (take n variables ++ revalued (drop n variables) values) ≡ length variables
length-outer zero variables values = length-revalued variables values
length-outer (suc n) [] values = refl
length-outer (suc n) (first ∷ rest) values = ap suc (length-outer n rest values)

take-outer : (n : ℕ) (variables others : Variables) → n ≤ length variables
    → take n (take n variables ++ others) ≡ take n variables
take-outer zero variables others le = refl
take-outer (suc n) [] others le = absurd (omega (arith, le))
take-outer (suc n) (first ∷ rest) others le =
    ap (λ l. first ∷ l) (take-outer n rest others (omega (arith, le)))

drop-outer : (n : ℕ) (variables others : Variables) → n ≤ length variables
    → drop n (take n variables ++ others) ≡ others
drop-outer zero variables others le = refl
drop-outer (suc n) [] others le = absurd (omega (arith, le))
drop-outer (suc n) (first ∷ rest) others le = drop-outer n rest others (omega (arith, le))

-- new values for all cells are the values of the cells
refilled-take : (cells values : List ℤ) → length cells ≤ length values
    → refilled cells values ≡ take (length cells) values
refilled-take [] values le = refl
refilled-take (cell ∷ cells) [] le = absurd (omega (arith, le))
refilled-take (cell ∷ cells) (value ∷ values) le =
    ap (λ l. value ∷ l) (refilled-take cells values (omega (arith, le)))

take-parts : (m n : ℕ) (values : List ℤ)
    → take m values ++ take n (drop m values) ≡ take (m + n) values
take-parts zero n values = let e : n ≡ 0 + n = omega arith in ap (λ k. take k values) e
take-parts (suc m) n [] = none n (suc m + n)
  where
    none : (n k : ℕ) → take {A = ℤ} n [] ≡ take k []
    none zero zero = refl
    none zero (suc k) = refl
    none (suc n) zero = refl
    none (suc n) (suc k) = refl
take-parts (suc m) n (value ∷ values) =
    let e : suc (m + n) ≡ suc m + n = omega arith in
    ap (λ l. value ∷ l) (take-parts m n values) ∙ ap (λ k. take k (value ∷ values)) e

length-drop : (n : ℕ) (values : List ℤ) → length values ≤ n + length (drop n values)
length-drop zero values = omega arith
length-drop (suc n) [] = omega arith
length-drop (suc n) (value ∷ values) = omega (arith, length-drop n values)

values_of-take : (variables : Variables) (values : List ℤ)
    → length (values_of variables) ≤ length values
    → values_of (revalued variables values) ≡ take (length (values_of variables)) values
values_of-take [] values le = refl
values_of-take (first ∷ rest) values le =
    let m = length (values_of rest) in
    let n = length first.1 in
    let e : length (values_of rest ++ first.1) ≡ m + n = length-append (values_of rest) first.1 in
    let le' : m ≤ length values = omega (arith, le, e) in
    let le'' : n ≤ length (drop m values) = omega (arith, le, e, length-drop m values) in
    ap (λ l. l ++ refilled first.1 (drop m values)) (values_of-take rest values le')
    ∙ ap (λ l. take m values ++ l) (refilled-take first.1 (drop m values) le'')
    ∙ take-parts m n values ∙ ap (λ k. take k values) (sym e)

take-all : (values : List ℤ) → take (length values) values ≡ values
take-all [] = refl
take-all (value ∷ values) = ap (λ l. value ∷ l) (take-all values)

pub values_of-revalued : (variables : Variables) (values : List ℤ)
    → length values ≡ length (values_of variables)
    → values_of (revalued variables values) ≡ values
values_of-revalued variables values e =
    values_of-take variables values (omega (arith, e))
    ∙ ap (λ k. take k values) (sym e) ∙ take-all values

-- a variable that can be seen without those outside it has its cells whatever they are
pub inner_cells : (inner outer outer' : Variables) (name : List ℕ)
    → is_declared (scope_of inner) name ≡ true
    → cells_named (inner ++ outer) name ≡ cells_named (inner ++ outer') name
inner_cells [] outer outer' name h = absurd (false≢true h)
inner_cells (first ∷ rest) outer outer' name h =
    by_test (bytes_eq first.0 name) (λ d. inner_cells rest outer outer' name d) h
  where
    by_test : (t : Bool) → (is_declared (scope_of rest) name ≡ true
        → cells_named (rest ++ outer) name ≡ cells_named (rest ++ outer') name)
        → t || is_declared (scope_of rest) name ≡ true
        → cond t first.1 (cells_named (rest ++ outer) name)
        ≡ cond t first.1 (cells_named (rest ++ outer') name)
    by_test true others h = refl
    by_test false others h = others h

-- ---- after a call

-- all variables keep their names and their numbers of cells
pub scope_of-after_call : (setting : Setting) (store : Store) (called : Called)
    → scope_of (after_call setting store called).variables ≡ scope_of store.variables
scope_of-after_call setting store called =
    scope_of-outer (length store.variables - setting.fields) store.variables called.fields

pub length-after_call : (setting : Setting) (store : Store) (called : Called)
    → length (after_call setting store called).variables ≡ length store.variables
length-after_call setting store called =
    length-outer (length store.variables - setting.fields) store.variables called.fields

-- the caller's locals stay
pub locals_in-after_call : (setting : Setting) (store : Store) (called : Called)
    → locals_in setting (after_call setting store called).variables
    ≡ locals_in setting store.variables
locals_in-after_call setting store called =
    ap (λ n. take (n - setting.fields) (after_call setting store called).variables)
    (length-after_call setting store called)
    ∙ take-outer (length store.variables - setting.fields) store.variables
    (revalued (fields_in setting store.variables) called.fields) (omega arith)

-- the fields are those before the call, with the values that it gives
pub fields_in-after_call : (setting : Setting) (store : Store) (called : Called)
    → fields_in setting (after_call setting store called).variables
    ≡ revalued (fields_in setting store.variables) called.fields
fields_in-after_call setting store called =
    ap (λ n. drop (n - setting.fields) (after_call setting store called).variables)
    (length-after_call setting store called)
    ∙ drop-outer (length store.variables - setting.fields) store.variables
    (revalued (fields_in setting store.variables) called.fields) (omega arith)

pub values-after_call : (setting : Setting) (store : Store) (called : Called)
    → length called.fields ≡ length (values_of (fields_in setting store.variables))
    → values_of (fields_in setting (after_call setting store called).variables) ≡ called.fields
values-after_call setting store called e =
    ap values_of (fields_in-after_call setting store called)
    ∙ values_of-revalued (fields_in setting store.variables) called.fields e

-- of the traffic the turns alone change
pub popped-after_call : (setting : Setting) (store : Store) (called : Called)
    → (after_call setting store called).traffic.popped ≡ store.traffic.popped
popped-after_call setting store called = refl

pub pushes-after_call : (setting : Setting) (store : Store) (called : Called)
    → (after_call setting store called).traffic.pushes ≡ store.traffic.pushes
pushes-after_call setting store called = refl

pub words-after_call : (setting : Setting) (store : Store) (called : Called)
    → (after_call setting store called).traffic.words ≡ store.traffic.words
words-after_call setting store called = refl
