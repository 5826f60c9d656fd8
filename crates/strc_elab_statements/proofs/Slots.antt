-- Where the cells of a variable are.
use Rattle.std.proofs.Common.{◌≡◌, ℕ, ℤ, zero, suc, ◌-◌, ◌<◌, Bool, true, false, List, [], ◌∷◌}
use Rattle.std.proofs.Common.{◌++◌, length, drop, take, length-drop, get_or, slice_set, Some, None}
use Rattle.std.proofs.Common.{cond, refl, sym, ap, ◌∙◌, arith, Vec}
use Rattle.std.specs.Prelude.{bytes_eq}
use Rattle.std.specs.declared.alloc.Global.{Global}
use Rattle.strc_work_meaning.specs.Firing.{Variables, cells_named, with_cell}
use Rattle.strc_lex_names.specs.Names.{number_named, plain_names}
use Rattle.strc_work_meaning.specs.Typing.{TypedNames}
use Rattle.strc_elab_statements.specs.Bindings.{Bindings, row_at, with_cells}

pub length_plain : (names : TypedNames) → length (plain_names names) ≡ length names
length_plain [] = refl
length_plain (first ∷ rest) = ap suc (length_plain rest)

-- the number of a name is below how many there are
pub number_below : (names : TypedNames) (name : List ℕ) (slot : ℕ)
    → number_named (plain_names names) name ≡ Some slot → slot < length names
number_below [] name slot at = cc
number_below (first ∷ rest) name slot at =
    by_value (bytes_eq first.0 name) (number_below rest name slot) at
  where
    by_value : (t : Bool) → (number_named (plain_names rest) name ≡ Some slot → slot < length rest)
        → cond t (Some (length (plain_names rest))) (number_named (plain_names rest) name)
        ≡ Some slot → slot < suc (length rest)
    by_value true below e = let here : length (plain_names rest) ≡ slot = cc in
        omega (arith, length_plain rest)
    by_value false below e = let h : slot < length rest = below e in omega arith

-- the cells of a named variable are the row of its number
pub cells_at : (names : TypedNames) (cells : List (Vec ℤ Global)) (name : List ℕ) (slot : ℕ)
    → number_named (plain_names names) name ≡ Some slot
    → cells_named (with_cells names cells) name ≡ row_at cells slot
cells_at [] cells name slot at = cc
cells_at (first ∷ rest) cells name slot at =
    by_value (bytes_eq first.0 name) (cells_at rest cells name slot) at
  where
    by_value : (t : Bool) → (number_named (plain_names rest) name ≡ Some slot
        → cells_named (with_cells rest cells) name ≡ row_at cells slot)
        → cond t (Some (length (plain_names rest))) (number_named (plain_names rest) name)
        ≡ Some slot
        → cond t (row_at cells (length rest)) (cells_named (with_cells rest cells) name)
        ≡ row_at cells slot
    by_value true inner e = let here : length (plain_names rest) ≡ slot = cc in
        ap (row_at cells) (sym (length_plain rest) ∙ here)
    by_value false inner e = inner e

-- a name without a number has no cells
pub no_cells : (names : TypedNames) (cells : List (Vec ℤ Global)) (name : List ℕ)
    → number_named (plain_names names) name ≡ None → cells_named (with_cells names cells) name ≡ []
no_cells [] cells name at = refl
no_cells (first ∷ rest) cells name at = by_value (bytes_eq first.0 name)
    (no_cells rest cells name) at
  where
    by_value : (t : Bool) → (number_named (plain_names rest) name ≡ None
        → cells_named (with_cells rest cells) name ≡ [])
        → cond t (Some (length (plain_names rest))) (number_named (plain_names rest) name) ≡ None
        → cond t (row_at cells (length rest)) (cells_named (with_cells rest cells) name) ≡ []
    by_value true inner e = cc
    by_value false inner e = inner e

-- rows that agree up to a number are the same beside names
pub same_rows : (names : TypedNames) (a b : List (Vec ℤ Global))
    → ((i : ℕ) → i < length names → row_at a i ≡ row_at b i)
    → with_cells names a ≡ with_cells names b
same_rows [] a b agree = refl
same_rows (first ∷ rest) a b agree =
    ap (λ row. record { 0 = first.0; 1 = row } ∷ with_cells rest a)
    (agree (length rest) (omega arith))
    ∙ ap (λ l. record { 0 = first.0; 1 = row_at b (length rest) } ∷ l)
    (same_rows rest a b (λ i below. agree i (omega arith)))

-- rows after others
pub row_before : (a b : List (Vec ℤ Global)) (i : ℕ) → i < length a → row_at (a ++ b) i ≡ row_at a i
row_before [] b i below = absurd (omega arith)
row_before (first ∷ rest) b zero below = refl
row_before (first ∷ rest) b (suc i) below = row_before rest b i (omega arith)

pub row_behind : (a : List (Vec ℤ Global)) (row : Vec ℤ Global)
    → row_at (a ++ row ∷ []) (length a) ≡ row.items
row_behind [] row = refl
row_behind (first ∷ rest) row = row_behind rest row

pub row_taken : (start : ℕ) (cells : List (Vec ℤ Global)) (i : ℕ) → i < start
    → row_at (take start cells) i ≡ row_at cells i
row_taken zero cells i below = absurd (omega arith)
row_taken (suc start) [] i below = refl
row_taken (suc start) (first ∷ rest) zero below = refl
row_taken (suc start) (first ∷ rest) (suc i) below = row_taken start rest i (omega arith)

-- a row that is read by its number
pub row_read : (cells : List (Vec ℤ Global)) (i : ℕ) (d : Vec ℤ Global) → i < length cells
    → row_at cells i ≡ (get_or cells i d).items
row_read [] i d below = absurd (omega arith)
row_read (first ∷ rest) zero d below = refl
row_read (first ∷ rest) (suc i) d below = row_read rest i d (omega arith)

-- a row that is put in place of another
pub row_put : (cells : List (Vec ℤ Global)) (i : ℕ) (row : Vec ℤ Global) → i < length cells
    → row_at (slice_set cells i row) i ≡ row.items
row_put [] i row below = absurd (omega arith)
row_put (first ∷ rest) zero row below = refl
row_put (first ∷ rest) (suc i) row below = row_put rest i row (omega arith)

pub row_kept : (cells : List (Vec ℤ Global)) (i k : ℕ) (row : Vec ℤ Global) → (i ≡ k → ⊥)
    → row_at (slice_set cells i row) k ≡ row_at cells k
row_kept [] i k row apart = refl
row_kept (first ∷ rest) zero zero row apart = absurd (apart refl)
row_kept (first ∷ rest) zero (suc k) row apart = refl
row_kept (first ∷ rest) (suc i) zero row apart = refl
row_kept (first ∷ rest) (suc i) (suc k) row apart = row_kept rest i k row (λ e. apart (ap suc e))

-- a cell of a named variable gets a value in the row of its number
pub put_at : (names : TypedNames) (cells : List (Vec ℤ Global)) (name : List ℕ) (slot place : ℕ)
    (value : ℤ) (row : Vec ℤ Global) → number_named (plain_names names) name ≡ Some slot
    → slot < length cells → row.items ≡ slice_set (row_at cells slot) place value
    → with_cell (with_cells names cells) name place value
    ≡ with_cells names (slice_set cells slot row)
put_at [] cells name slot place value row at below is = cc
put_at (first ∷ rest) cells name slot place value row at below is =
    by_value (bytes_eq first.0 name) (λ e. put_at rest cells name slot place value row e below is)
    (number_below rest name slot) at
  where
    put : List (Vec ℤ Global)
    put = slice_set cells slot row

    by_value : (t : Bool) → (number_named (plain_names rest) name ≡ Some slot
        → with_cell (with_cells rest cells) name place value ≡ with_cells rest put)
        → (number_named (plain_names rest) name ≡ Some slot → slot < length rest)
        → cond t (Some (length (plain_names rest))) (number_named (plain_names rest) name)
        ≡ Some slot
        → cond t (record { 0 = first.0; 1 = slice_set (row_at cells (length rest)) place value }
        ∷ with_cells rest cells) (record { 0 = first.0; 1 = row_at cells (length rest) }
        ∷ with_cell (with_cells rest cells) name place value)
        ≡ record { 0 = first.0; 1 = row_at put (length rest) } ∷ with_cells rest put
    by_value true inner outside e =
        let same : length (plain_names rest) ≡ slot = cc in
        let here : slot ≡ length rest = sym same ∙ length_plain rest in
        let row_is : slice_set (row_at cells (length rest)) place value ≡ row_at put (length rest) =
        ap (λ n. slice_set (row_at cells n) place value) (sym here) ∙ sym is
        ∙ sym (row_put cells slot row below) ∙ ap (row_at put) here
        in
        ap (λ r. record { 0 = first.0; 1 = r } ∷ with_cells rest cells) row_is
        ∙ ap (λ l. record { 0 = first.0; 1 = row_at put (length rest) } ∷ l)
        (same_rows rest cells put (λ i lt. sym
        (row_kept cells slot i row (λ same_place. absurd (omega arith)))))
    by_value false inner outside e =
        let lt : slot < length rest = outside e in
        ap (λ r. record { 0 = first.0; 1 = r } ∷ with_cell (with_cells rest cells) name place value)
        (sym (row_kept cells slot (length rest) row (λ same_place. absurd (omega arith))))
        ∙ ap (λ l. record { 0 = first.0; 1 = row_at put (length rest) } ∷ l) (inner e)

-- a name without a number gets none
pub not_put : (names : TypedNames) (cells : List (Vec ℤ Global)) (name : List ℕ) (place : ℕ)
    (value : ℤ) → number_named (plain_names names) name ≡ None
    → with_cell (with_cells names cells) name place value ≡ with_cells names cells
not_put [] cells name place value at = refl
not_put (first ∷ rest) cells name place value at =
    by_value (bytes_eq first.0 name) (not_put rest cells name place value) at
  where
    by_value : (t : Bool) → (number_named (plain_names rest) name ≡ None
        → with_cell (with_cells rest cells) name place value ≡ with_cells rest cells)
        → cond t (Some (length (plain_names rest))) (number_named (plain_names rest) name) ≡ None
        → cond t (record { 0 = first.0; 1 = slice_set (row_at cells (length rest)) place value }
        ∷ with_cells rest cells) (record { 0 = first.0; 1 = row_at cells (length rest) }
        ∷ with_cell (with_cells rest cells) name place value)
        ≡ record { 0 = first.0; 1 = row_at cells (length rest) } ∷ with_cells rest cells
    by_value true inner e = cc
    by_value false inner e = ap (λ l. record { 0 = first.0; 1 = row_at cells (length rest) } ∷ l)
        (inner e)

-- one more variable
pub one_declared : (names : TypedNames) (cells : List (Vec ℤ Global)) (row : Vec ℤ Global)
    → length cells ≡ length names → row_at (cells ++ row ∷ []) (length names) ≡ row.items
one_declared names cells row e = ap (row_at (cells ++ row ∷ [])) (sym e) ∙ row_behind cells row

pub kept_declared : (names : TypedNames) (cells : List (Vec ℤ Global)) (row : Vec ℤ Global)
    → length cells ≡ length names → with_cells names (cells ++ row ∷ []) ≡ with_cells names cells
kept_declared names cells row e = same_rows names (cells ++ row ∷ []) cells
    (λ i below. row_before cells (row ∷ []) i (omega (arith, e)))

pub length_with_cells : (names : TypedNames) (cells : List (Vec ℤ Global))
    → length (with_cells names cells) ≡ length names
length_with_cells [] cells = refl
length_with_cells (first ∷ rest) cells = ap suc (length_with_cells rest cells)

pub drop_with_cells : (n : ℕ) (names : TypedNames) (cells : List (Vec ℤ Global))
    → with_cells (drop n names) cells ≡ drop n (with_cells names cells)
drop_with_cells zero names cells = refl
drop_with_cells (suc n) [] cells = refl
drop_with_cells (suc n) (first ∷ rest) cells = drop_with_cells n rest cells

-- the variables that are left
pub left_with_cells : (names : TypedNames) (cells : List (Vec ℤ Global)) (start : ℕ)
    → with_cells (drop (length names - start) names) (take start cells)
    ≡ drop (length (with_cells names cells) - start) (with_cells names cells)
left_with_cells names cells start =
    same_rows (drop (length names - start) names) (take start cells) cells
    (λ i below. row_taken start cells i
    (omega (arith, length-drop (length names - start) names)))
    ∙ drop_with_cells (length names - start) names cells
    ∙ ap (λ n. drop (n - start) (with_cells names cells)) (sym (length_with_cells names cells))

-- names and variables together
abbrev pub bound : TypedNames → Variables → Bindings
bound names variables = record { names = names; variables = variables }
