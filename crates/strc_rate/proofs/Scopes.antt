-- The names of variables with the numbers of their cells.
use Rattle.std.proofs.Common.{◌≡◌, refl, ap, ℕ, Bool, true, false, cond, ℤ, List, [], ◌∷◌, length}
use Rattle.std.proofs.Common.{map, set}
use Rattle.std.specs.Prelude.{bytes_eq}
use Rattle.std.proofs.lemmas.List.{length-set}
use Rattle.strc_work_meaning.specs.Scoping.{Scope}
use Rattle.strc_work_meaning.specs.Firing.{Variables, with_cell}

-- the variables with the numbers of their cells
abbrev pub scope_of : Variables → Scope
scope_of = map (λ v. record { 0 = v.0; 1 = length v.1 })

scope_by_test : (first : List ℕ × List ℤ) (rest : Variables) (name : List ℕ) (place : ℕ) (value : ℤ)
    → scope_of (with_cell rest name place value) ≡ scope_of rest → (t : Bool)
    → scope_of (cond t (record { 0 = first.0; 1 = set first.1 place value } ∷ rest)
    (first ∷ with_cell rest name place value)) ≡ record { 0 = first.0; 1 = length first.1 }
    ∷ scope_of rest
scope_by_test first rest name place value inside true =
    ap (λ n. record { 0 = first.0; 1 = n } ∷ scope_of rest) (length-set first.1 place value)
scope_by_test first rest name place value inside false =
    ap (λ l. record { 0 = first.0; 1 = length first.1 } ∷ l) inside

-- an assignment keeps the names and the numbers of cells
pub scope_of-with_cell : (variables : Variables) (name : List ℕ) (place : ℕ) (value : ℤ)
    → scope_of (with_cell variables name place value) ≡ scope_of variables
scope_of-with_cell [] name place value = refl
scope_of-with_cell (first ∷ rest) name place value =
    scope_by_test first rest name place value (scope_of-with_cell rest name place value)
    (bytes_eq first.0 name)
